use Rattle.std.proofs.Common.{◌≡◌, rules, subst, true, false}
use Rattle.serde_json.specs.View.{view}
use Rattle.num_rational.specs.Json.{IsJsonInteger}
use Rattle.num_rational.proofs.JsonLemmas.{has_two, two_list}
use Rattle.num_rational.proofs.json.fields.Goals as goal

pub returns-then-len-ne2 : goal.returns-then-len-ne2
returns-then-len-ne2 g c = λ a b e.
    let two = has_two (view c.args.value.now) a b c.in-Some.items.now.items c.in-Some.ensures e in search rules

pub returns-then-is_zero : goal.returns-then-is_zero
returns-then-is_zero g c =
    let t = g.T.Integer in
    let x = c.index.result.now in
    let y = c.index-2.result.now in (
      t.value c.in-Some-first.numer,
      record {
        first = view x;
        second = view y;
        list = two_list (view c.args.value.now) c.in-Some.items.now.items x y c.in-Some.ensures (search rules) c.index.ensures c.index-2.ensures;
        numer = c.in-Some-first.ensures;
        denom = subst (IsJsonInteger t.lo t.hi (view y)) (c.is_zero.ensures.0 c.if-is_zero.true) c.in-Some-second.ensures;
      },
    )

pub returns-else-is_zero : goal.returns-else-is_zero
returns-else-is_zero g c =
    let x = c.index.result.now in
    let y = c.index-2.result.now in (
      record {
        first = view x;
        second = view y;
        list = two_list (view c.args.value.now) c.in-Some.items.now.items x y c.in-Some.ensures (search rules) c.index.ensures c.index-2.ensures;
        numer = c.in-Some-first.ensures;
        denom = c.in-Some-second.ensures;
      },
      λ zero. let no : false ≡ true = c.if-is_zero.ensures.1 zero in cc,
    )
