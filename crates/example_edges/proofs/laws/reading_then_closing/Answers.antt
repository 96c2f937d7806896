use Rattle.example_edges.proofs.Listing.{are_path_edges, no_error}
use Rattle.example_edges.proofs.ReadingListing.{is_listing, is_setting, it}
use Rattle.example_edges.proofs.laws.reading_then_closing.Goals as goal

pub returns-clause-setting : goal.returns-clause-setting
returns-clause-setting c = is_setting

pub returns-clause-are : goal.returns-clause-are
returns-clause-are c = are_path_edges it is_listing

pub returns-clause-no_error : goal.returns-clause-no_error
returns-clause-no_error c = no_error it is_listing
