-- The answers of a list of facts are those of the facts; so each question is asked in a setting with these answers.
use Rattle.std.proofs.Common.{List, Contains, ◌≤◌, refl}
use Rattle.machine_bytecode.specs.Objects.{Subject}
use Rattle.points_to_rules.specs.Facts.{Fact}
use Rattle.stage_transfer.specs.Settings.{AreAnswersOf, Setting}
use Rattle.ground_views.specs.declared.question.Question.{Question}
use Rattle.ground_views.specs.Questions.{IsAskedOf}
use Rattle.listed_answers.specs.ListedAnswers.{answers_by}
use Rattle.listed_answers.proofs.Searches.{alone, holds, writes}
use Rattle.listed_answers.proofs.Ways.{is_variable_of}

pub are_answers : (facts : List Fact) → AreAnswersOf (Contains facts) (answers_by facts)
are_answers facts = record {
  variables = λ l n z reached here. is_variable_of l reached n z here;
  holds = holds facts;
  alone = alone facts;
  writes = writes facts;
}

-- What a question is about, and the setting that it names.
abbrev subject_of : Question → Subject
subject_of q = record { program = q.ground.now.program; property = q.setting.automaton.now; entry = q.entry.0 }

abbrev setting_of : Question → Setting
setting_of q = record {
  property = q.setting.automaton.now;
  site = q.setting.site.now;
  stage = q.setting.stage;
  depth = q.setting.depth;
  answers = answers_by q.ground.now.facts;
}

pub is_asked : (q : Question) → q.setting.depth ≤ 3 → (x : Subject) × (w : Setting) × IsAskedOf q x w
is_asked q few = (
  subject_of q,
  setting_of q,
  record {
    program = refl;
    entry = refl;
    like = record { property = refl; site = refl; stage = refl; depth = refl; few = few };
    setting = record { property = refl; answers = are_answers q.ground.now.facts };
  },
)
