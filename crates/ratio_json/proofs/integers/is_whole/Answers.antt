use Rattle.serde_json.specs.View.{view}
use Rattle.ratio_json.proofs.WholeLemmas.{integer_found, text_found}
use Rattle.ratio_json.proofs.integers.is_whole.Goals as goal

pub returns-in-Some : goal.returns-in-Some
returns-in-Some c = text_found (view c.args.value.now) c.in-Some.text.now c.as_bytes.result.now c.is_whole_text.result c.in-Some.ensures c.as_bytes.ensures.value c.is_whole_text.ensures

pub returns-in-None : goal.returns-in-None
returns-in-None c = integer_found (view c.args.value.now) c.integer.result c.is_some.result c.in-None.ensures c.integer.ensures c.is_some.ensures
