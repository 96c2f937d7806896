pub mod ReadStubs
