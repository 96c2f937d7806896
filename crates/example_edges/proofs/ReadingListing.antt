-- The class that is read in a loop: each test is met.
use Rattle.std.proofs.Common.{codes, List, [], ◌∷◌, Contains, refl}
use Rattle.jvm_model.specs.Programs.{Method, in_file}
use Rattle.jvm_model.specs.Soundness.{plain_descriptor}
use Rattle.stage_edges.specs.Edges.{IsSettingOf}
use Rattle.listed_answers.proofs.Answering.{are_answers}
use Rattle.example_machine.specs.Building.{method}
use Rattle.example_nodes.specs.Lowering.{class_no}
use Rattle.example_edges.specs.Reading.{edges, facts, file, main_code, methods, program, property, setting, subject}
use Rattle.example_edges.proofs.Nodes.{Example, IsPlain}
use Rattle.example_edges.proofs.Closed.{IsClosedByTest}
use Rattle.example_edges.proofs.Listing.{IsListing, Reason, begins, by_one, by_two}

abbrev entry : Method
entry = record {
  class = codes "F";
  signature = record { name = codes "main"; descriptor = plain_descriptor };
  flags = 9;
  body = in_file file 0 (method 9 6 7 main_code);
}

abbrev pub it : Example
it = record { program = program; property = property; entry = entry; class = class_no 0; methods = methods; facts = facts; setting = setting; edges = edges }

plain : IsPlain it
plain = record { entry = refl; class = record { class = _; stands = refl; named = refl }; methods = refl; nodes = refl }

closed : IsClosedByTest it
closed = record { begins = refl; methods = refl; starts = λ k c. refl }

-- Why each edge is there, in the order of the list.
abbrev reasons : List Reason
reasons =
    begins  -- 0
    ∷ by_one 0  -- 1
    ∷ by_one 1  -- 2
    ∷ by_one 1  -- 3
    ∷ by_one 2  -- 4
    ∷ by_one 3  -- 5
    ∷ by_one 4  -- 6
    ∷ by_one 4  -- 7
    ∷ by_one 5  -- 8
    ∷ by_one 5  -- 9
    ∷ by_two 0 6  -- 10
    ∷ by_one 7  -- 11
    ∷ by_two 0 8  -- 12
    ∷ by_one 9  -- 13
    ∷ by_one 11  -- 14
    ∷ by_one 11  -- 15
    ∷ by_one 13  -- 16
    ∷ by_one 13  -- 17
    ∷ by_one 15  -- 18
    ∷ by_one 17  -- 19
    ∷ by_two 4 18  -- 20
    ∷ by_two 5 19  -- 21
    ∷ by_one 20  -- 22
    ∷ by_one 21  -- 23
    ∷ by_one 22  -- 24
    ∷ by_one 23  -- 25
    ∷ by_one 24  -- 26
    ∷ by_one 25  -- 27
    ∷ by_one 26  -- 28
    ∷ by_one 27  -- 29
    ∷ by_one 28  -- 30
    ∷ by_one 29  -- 31
    ∷ by_two 24 30  -- 32
    ∷ by_two 25 31  -- 33
    ∷ by_one 32  -- 34
    ∷ by_one 33  -- 35
    ∷ by_one 34  -- 36
    ∷ by_one 35  -- 37
    ∷ by_one 36  -- 38
    ∷ by_one 37  -- 39
    ∷ by_one 38  -- 40
    ∷ by_one 39  -- 41
    ∷ by_two 36 40  -- 42
    ∷ by_two 37 41  -- 43
    ∷ by_one 42  -- 44
    ∷ by_one 43  -- 45
    ∷ by_two 0 44  -- 46
    ∷ by_two 0 45  -- 47
    ∷ by_one 46  -- 48
    ∷ by_one 47  -- 49
    ∷ []

pub is_listing : IsListing it
is_listing = record { plain = plain; closed = closed; reasons = reasons; follow = refl; numbered = refl; no_error = refl }

pub is_setting : IsSettingOf subject (Contains facts) setting
is_setting = record { property = refl; answers = are_answers facts }
