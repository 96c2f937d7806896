use Rattle.std.proofs.Common.{◌≡◌, arith, sym, ◌∙◌}
use Rattle.list_laws.proofs.Zips.{zip_more}
use Rattle.toml.specs.View.{view}
use Rattle.property_file.specs.Reading.{IsText}
use Rattle.toml_tables.proofs.Lists.{AllZip-none}
use Rattle.toml_tables.proofs.Values.{as_str-none, as_str-some}
use Rattle.property_file.proofs.state_list.texts_of.Goals as goal

pub returns-in-None : goal.returns-in-None
returns-in-None c = λ texts.
    AllZip-none IsText c.args.values.now texts c.loop-value.value-index c.value-item.result (omega arith) c.value-item.is
    (as_str-none (view c.value-item.result) (sym (rw c.in-None.is at c.as_str.ensures)))

pub loop-value-preserved : goal.loop-value-preserved
loop-value-preserved c =
    let pushed : c.from_string.result ≡ c.in-Some.text.now = c.from_string.ensures ∙ c.in_ok-from_str-in-Some.ensures.ok in
    rw (c.in_ok-push-in-Some.ensures.items, pushed)
    (zip_more IsText c.args.values.now c.loop-value.texts.items c.loop-value.value-index c.value-item.result c.in-Some.text.now (omega arith) c.value-item.is c.loop-value.invariant
    (as_str-some (view c.value-item.result) c.in-Some.text.now (sym (rw c.in-Some.is at c.as_str.ensures))))
