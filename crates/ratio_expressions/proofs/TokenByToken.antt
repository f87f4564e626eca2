-- One token more is read, or refused, or none is left.
use Rattle.std.proofs.Common.{◌≡◌, ◌<◌, ◌≤◌, ◌+◌, ℕ, zero, suc, Bool, false, List, [], ◌∷◌, get_or, take, length, reverse, Option, Some, None, refl, ap, sym, ◌∙◌, subst, arith}
use Rattle.std.specs.Prelude.{◌==◌}
use Rattle.std.proofs.lemmas.List.{take_more, length-reverse}
use Rattle.std.proofs.Math.Seq.{take-length}
use Rattle.ratio_expressions.specs.declared.token.Token.{Token}
use Rattle.ratio_expressions.specs.declared.step.Step.{Step}
use Rattle.ratio_expressions.specs.declared.parser.mark.Mark.{Mark}
use Rattle.ratio_expressions.specs.Reading.{Work, State, work_of, state_of, next_state, settle, run, start, finish, if_settled, IsNextState, IsRefusedAt}
use Rattle.ratio_expressions.proofs.Completeness.{run-append}

module _ (tokens : List Token) (at : ℕ) (x : State) (d : Token) (read : run (take at tokens) start ≡ Some x) (within : at < length tokens) where
  next_read : run (take (at + 1) tokens) start ≡ next_state x.wants (get_or tokens at d).kind (get_or tokens at d).span x.work
  next_read = ap (λ l. run l start) (take_more tokens at d within) ∙ run-append (take at tokens) (get_or tokens at d ∷ []) start ∙ ap (run (get_or tokens at d ∷ [])) read

  pub refused_here : (marks : List Mark) (written : List Step) (r : Option Bool) → IsNextState (next_state x.wants (get_or tokens at d).kind (get_or tokens at d).span x.work) marks written r → r ≡ None → IsRefusedAt tokens at
  refused_here marks written r next none =
      let e : next_state x.wants (get_or tokens at d).kind (get_or tokens at d).span x.work ≡ None = subst (λ o. IsNextState (next_state x.wants (get_or tokens at d).kind (get_or tokens at d).span x.work) marks written o) none next in
      record { bound = omega arith; before = x; read = read; within = λ h. next_read ∙ e; end = λ h. absurd (omega arith) }

  pub goes_on : (marks : List Mark) (written : List Step) (r : Option Bool) (wants : Bool) → IsNextState (next_state x.wants (get_or tokens at d).kind (get_or tokens at d).span x.work) marks written r → r ≡ Some wants → run (take (at + 1) tokens) start ≡ Some (state_of marks written wants)
  goes_on marks written r wants next some = next_read ∙ subst (λ o. IsNextState (next_state x.wants (get_or tokens at d).kind (get_or tokens at d).span x.work) marks written o) some next

-- all tokens are read, and the end is refused
pub refused_end : (tokens : List Token) (at : ℕ) (x : State) → run (take at tokens) start ≡ Some x → at ≤ length tokens → length tokens ≤ at → finish (Some x) ≡ None → IsRefusedAt tokens (length tokens)
refused_end tokens at x read below above none =
    let here : at ≡ length tokens = omega arith in
    let all : run (take (length tokens) tokens) start ≡ Some x = subst (λ n. run (take n tokens) start ≡ Some x) here read in
    record { bound = omega arith; before = x; read = all; within = λ h. absurd (omega arith); end = λ h. ap (λ l. finish (run l start)) (sym (take-length tokens)) ∙ ap finish all ∙ none }

waits : (l : List Mark) (out : List Step) → 0 < length l → if_settled l out ≡ None
waits [] out h = absurd (omega arith)
waits (m ∷ l) out h = refl

pub some_left : (n : ℕ) → false ≡ (n == 0) → 0 < n
some_left zero h = absurd (cc)
some_left (suc n) h = omega arith

-- something still waits when all is settled
pub unsettled_end : (marks0 marks : List Mark) (written0 written : List Step) (wants : Bool) → wants ≡ false → work_of marks written ≡ settle 1 (reverse marks0) written0 → 0 < length marks → finish (Some (state_of marks0 written0 wants)) ≡ None
unsettled_end marks0 marks written0 written wants reading e rest =
    ap (λ b. finish (Some (state_of marks0 written0 b))) reading
    ∙ ap (λ (v : Work). if_settled v.marks v.written) (sym e)
    ∙ waits (reverse marks) written (omega (arith, length-reverse marks))
