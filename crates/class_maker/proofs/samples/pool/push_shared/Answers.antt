use Rattle.std.proofs.lemmas.List.{append_assoc}
use Rattle.class_maker.proofs.samples.pool.push_shared.Goals as goal

pub returns : goal.returns
returns c =
    rw (c.in_ok-push-3.ensures.items, c.in_ok-push_text-5.ensures, c.in_ok-push-2.ensures.items, c.in_ok-push_text-4.ensures, c.in_ok-push.ensures.items, c.in_ok-push_text-3.ensures, c.in_ok-push_text-2.ensures, c.in_ok-push_text.ensures)
    (simp append_assoc)
