-- What an expression is worth, and which refusal it has: by recursion over its tree.
use Rattle.std.specs.Prelude.{◌≡◌, ◌⊎◌, ℕ, ℤ, List, [], ◌∷◌, ◌++◌, Option, None, Some, slice_range}
use Rattle.ratio_expressions.specs.declared.token.Span.{Span}
use Rattle.ratio_expressions.specs.declared.refusal.Refusal.{Refusal}
use Rattle.ratio_expressions.specs.declared.refusal.Reason.{Reason}
use Rattle.ratio_expressions.specs.declared.refusal.Reason.TheVariants as reasons
use Rattle.ratio_expressions.specs.Calls.{GivesCall, RefusesCall}
use Rattle.ratio_expressions.specs.Grammar.{Tree, Number, Name, Signed, Between, Group, Call, Listed}
use Rattle.ratio_expressions.specs.Numbers.{SaysNumber, SaysNoNumber}
use Rattle.ratio_expressions.specs.Operators.{GivesWorth, RefusesWorths, IsSignedWorth, IsTrueOrFalse}
use Rattle.ratio_expressions.specs.Worths.{Worth, Amount}

-- the bytes of a text at a place
-- Example: `12` in `2*12`, from 2 to 4
abbrev pub piece : List ℕ → Span → List ℕ
piece text s = slice_range text s.start s.end

-- the refusal for this reason, where this token begins
abbrev pub IsRefusedAt : Span → Reason → Refusal → Type 0
IsRefusedAt s reason r = (r.reason ≡ reason) × (r.place ≡ s.start)

-- in this text, and with what each name is worth
module _ (text : List ℕ) (named : List ℕ → Option Worth) where
  -- the expression, or each of the arguments of a call, is worth this. An operator gives it of what its two operands are worth, and a call
  -- of what its arguments are
  -- Example: `1/2+1/3`: 5/6; `1, 1/2` in `max(1, 1/2)`: 1 and 1/2
  abbrev pub AreWorth : Tree → List Worth → Type 0
  AreWorth (Number s) (w ∷ []) = (x : ℤ × ℤ) × SaysNumber (piece text s) x × (w ≡ Amount x)
  AreWorth (Name s) (w ∷ []) = named (piece text s) ≡ Some w
  AreWorth (Signed g s t) (w ∷ []) = (v : Worth) × AreWorth t (v ∷ []) × IsSignedWorth g v w
  AreWorth (Between o s a b) (w ∷ []) = (u : Worth) × (v : Worth) × AreWorth a (u ∷ []) × AreWorth b (v ∷ []) × GivesWorth o u v w
  AreWorth (Group s t e) (w ∷ []) = AreWorth t (w ∷ [])
  AreWorth (Call n s t e) (w ∷ []) = (us : List Worth) × AreWorth t us × GivesCall (piece text n) us w
  AreWorth (Listed a s b) ws = (us : List Worth) × (v : Worth) × AreWorth a us × AreWorth b (v ∷ []) × (ws ≡ us ++ v ∷ [])
  AreWorth t ws = ⊥

  -- the expression is worth this
  -- Example: `1/2+1/3`: 5/6
  abbrev pub IsWorth : Tree → Worth → Type 0
  IsWorth t w = AreWorth t (w ∷ [])

  -- the expression has this refusal: its left operand has it; or that one is worth something, and its right operand has it; or both are
  -- worth something, and the operator refuses them, at its place. A call has that of its first argument that has one; or each argument is
  -- worth something, and the call refuses them, at its name
  -- Example: `2+1/(3-3)`: `ZeroDivisor`, at 3
  abbrev pub HasRefusal : Tree → Refusal → Type 0
  HasRefusal (Number s) r = SaysNoNumber (piece text s) r.reason × (r.place ≡ s.start)
  HasRefusal (Name s) r = (named (piece text s) ≡ None) × IsRefusedAt s reasons.UnknownName r
  HasRefusal (Signed g s t) r = HasRefusal t r ⊎ ((v : Worth) × IsWorth t v × IsTrueOrFalse v × IsRefusedAt s reasons.NotNumber r)
  HasRefusal (Between o s a b) r =
      HasRefusal a r ⊎ ((u : Worth) × IsWorth a u × (HasRefusal b r ⊎ ((v : Worth) × IsWorth b v × RefusesWorths o u v r.reason × (r.place ≡ s.start))))
  HasRefusal (Group s t e) r = HasRefusal t r
  HasRefusal (Call n s t e) r = HasRefusal t r ⊎ ((us : List Worth) × AreWorth t us × RefusesCall (piece text n) us r.reason × (r.place ≡ n.start))
  HasRefusal (Listed a s b) r = HasRefusal a r ⊎ ((us : List Worth) × AreWorth a us × HasRefusal b r)
