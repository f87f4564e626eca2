use Rattle.std.proofs.Common.{◌+◌, [], map, take, drop, refl, sym, subst, inl}
use Rattle.std.specs.Prelude.{MatchResult, string_bytes}
use Rattle.std.proofs.lemmas.Result.{err_from_is_err_and}
use Rattle.ratio.specs.Requests.{IsAskedBy, RefusesArguments, RefusesNext, RefusesOne, says_nothing}
use Rattle.ratio.proofs.RequestLemmas.{split_at}
use Rattle.ratio.proofs.request.requested.Goals as goal

pub loop-word-init : goal.loop-word-init
loop-word-init c = record { wishes = []; say = says_nothing; page = refl; form = refl; paired = refl; text = refl }

pub returns-in_err-take : goal.returns-in_err-take
returns-in_err-take c =
    let words = c.args.words.now in
    let i = c.loop-word.word-index in
    let word = c.word-item.result in
    let all = map string_bytes words in
    let front = map string_bytes (take i words) in
    let p = err_from_is_err_and c.from_residual.result c.from_residual.ensures.1 in
    let here = subst (λ w. RefusesNext front w c.in_err-take.field-0.0) c.as_str.ensures.value (c.in_err-take.ensures front c.loop-word.invariant) in
    let one : RefusesOne all p.0 = record {
      front = front;
      word = string_bytes word;
      rest = map string_bytes (drop (i + 1) words);
      split = split_at string_bytes words i word c.loop-word-test.true c.word-item.is;
      refuses = subst (RefusesNext front (string_bytes word)) (sym p.2) here;
    } in
    subst (λ r. MatchResult r (IsAskedBy all) (RefusesArguments all)) (sym p.1) (inl one)
