-- What `parse` says of a result follows from how the tokens are read.
use Rattle.std.proofs.Common.{◌≡◌, ◌<◌, ◌≤◌, ◌+◌, ℕ, List, take, length, Result, Ok, Err, subst}
use Rattle.std.specs.Prelude.{MatchResult, IfOk}
use Rattle.ratio_expressions.specs.declared.token.Token.{Token}
use Rattle.ratio_expressions.specs.declared.step.Step.{Step}
use Rattle.ratio_expressions.specs.declared.parser.error.ParseError.{ParseError}
use Rattle.ratio_expressions.specs.declared.parser.error.ParseError.TheVariants.{RefusedToken}
use Rattle.ratio_expressions.specs.Grammar.{Tree, HasTree, IsBegun, postfix}
use Rattle.ratio_expressions.specs.Reading.{Gives, Fails, IsRefusedAt}
use Rattle.ratio_expressions.proofs.Soundness.{whole, begun}
use Rattle.ratio_expressions.proofs.ParserLaws.{not_begun, no_tree}

pub found_in : {V : Type 0} (items : V → List Step) (ts : List Token) (r : Result V ParseError) → MatchResult r (λ v. Gives ts (items v)) (λ e. Fails ts e) → IfOk r (λ v. (t : Tree) × HasTree ts t × (items v ≡ postfix t))
found_in items ts (Ok v) h = whole ts (items v) h
found_in items ts (Err e) h = tt

refused_in : {V : Type 0} (items : V → List Step) (ts : List Token) (r : Result V ParseError) (at : ℕ) → MatchResult r (λ v. Gives ts (items v)) (λ e. Fails ts e) → r ≡ Err (RefusedToken at) → IsRefusedAt ts at
refused_in items ts r at h e = subst (λ x. MatchResult x (λ v. Gives ts (items v)) (λ e. Fails ts e)) e h

pub begun_at : {V : Type 0} (items : V → List Step) (ts : List Token) (r : Result V ParseError) → MatchResult r (λ v. Gives ts (items v)) (λ e. Fails ts e) → (at : ℕ) → r ≡ Err (RefusedToken at) → IsBegun (take at ts)
begun_at items ts r h at e = let p = refused_in items ts r at h e in begun (take at ts) p.before p.read

pub stopped_at : {V : Type 0} (items : V → List Step) (ts : List Token) (r : Result V ParseError) → MatchResult r (λ v. Gives ts (items v)) (λ e. Fails ts e) → (at : ℕ) → r ≡ Err (RefusedToken at) → at < length ts → ¬ IsBegun (take (at + 1) ts)
stopped_at items ts r h at e within = let p = refused_in items ts r at h e in not_begun (take (at + 1) ts) (p.within within)

pub unfinished_at : {V : Type 0} (items : V → List Step) (ts : List Token) (r : Result V ParseError) → MatchResult r (λ v. Gives ts (items v)) (λ e. Fails ts e) → (at : ℕ) → r ≡ Err (RefusedToken at) → length ts ≤ at → (t : Tree) → ¬ HasTree ts t
unfinished_at items ts r h at e end t = let p = refused_in items ts r at h e in no_tree ts t (p.end end)

pub within_of : {V : Type 0} (items : V → List Step) (ts : List Token) (r : Result V ParseError) → MatchResult r (λ v. Gives ts (items v)) (λ e. Fails ts e) → (at : ℕ) → r ≡ Err (RefusedToken at) → at ≤ length ts
within_of items ts r h at e = (refused_in items ts r at h e).bound
