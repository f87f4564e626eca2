-- What `pad_integral` writes if no option is given.
use Rattle.std.proofs.Common.{◌≡◌, refl, sym, ◌∙◌, ap, subst, arith, ℕ, ℤ, ◌-◌, ◌/◌, ◌==◌, Bool, true, false, cond, List, [], ◌∷◌, ◌++◌, drop, length, Result}
use Rattle.std.specs.Prelude.{◌≢◌}
use Rattle.std.specs.Str.Parse.{starts_with_minus}
use Rattle.std.specs.Fmt.{char_count, padded_integral, padding_before, sign_text, IsDefaultSpec, WritesInCalls, WritesOnOk, WritesStyledOnOk, formatter_spec}
use Rattle.std.specs.declared.fmt.Formatter.{Formatter}
use Rattle.std.specs.declared.fmt.Error.{Error}
use Rattle.std.proofs.lemmas.Bool.{ne_eqb}
use Rattle.std.proofs.lemmas.List.{append-nil}
use Rattle.ratio_core.specs.declared.text.Form.{Form}
use Rattle.ratio_core.specs.Printing.{body_of, text_of}

cond_same : {A : Type 0} (t : Bool) (x : A) → cond t x x ≡ x
cond_same true x = refl
cond_same false x = refl

none_before : (s : _) (a : ℕ) → padding_before s 0 a ≡ 0
none_before s a = both (cond (s.align == 0) a s.align == 1) (cond (s.align == 0) a s.align == 2)
  where
    both : (t u : Bool) → cond t 0 (cond u (0 / 2) 0) ≡ 0
    both true u = refl
    both false true = refl
    both false false = refl

plain_text : (s : _) (negative : Bool) (prefix digits : List ℕ) → IsDefaultSpec s → padded_integral s negative prefix digits ≡ sign_text negative ++ digits
unfolding padded_integral
plain_text s negative prefix digits bare =
    let none : s.width - length digits - length (sign_text negative) - char_count [] ≡ 0 = omega (arith, bare.width) in
    rw (bare.plus, bare.alternate, none, none_before s 3) (simp (cond_same, append-nil))

-- so it writes the text as it is
pub writes_plain : {W : Type 0} (took : W → List ℕ → W → Type 0) (f g : Formatter W) (r : Result (Unit {0}) Error) (negative : Bool) (prefix digits text : List ℕ)
    → (IsDefaultSpec (formatter_spec f) → sign_text negative ++ digits ≡ text)
    → WritesStyledOnOk took f r (padded_integral (formatter_spec f) negative prefix digits) g → WritesOnOk took f r text g
writes_plain took f g r negative prefix digits text whole styled = λ plain ok.
    let written = styled plain.flush ok in
    record {
      wrote = subst (λ bytes. WritesInCalls took f.writer bytes g.writer) (plain_text (formatter_spec f) negative prefix digits plain.bare ∙ whole plain.bare) written.wrote;
      plain = record { bare = subst IsDefaultSpec (sym written.spec) plain.bare; flush = written.flush };
    }

pub no_minus : (text : List ℕ) → ((rest : List ℕ) → text ≢ 45 ∷ rest) → starts_with_minus text ≡ false
no_minus [] other = refl
no_minus (c ∷ cs) other = ne_eqb c 45 (λ e. other cs (ap (λ x. x ∷ cs) e))

-- the rest after a prefix is unique
pub same_rest : (prefix xs ys : List ℕ) → prefix ++ xs ≡ prefix ++ ys → xs ≡ ys
same_rest [] xs ys e = e
same_rest (c ∷ cs) xs ys e = same_rest cs xs ys (let tail : cs ++ xs ≡ cs ++ ys = cc in tail)

-- without `#`, no prefix is written
pub bare_body : (alternate : Bool) (bits : ℕ) (form : Form) (n d : ℤ) → alternate ≡ false → body_of bits form alternate n d ≡ text_of bits form false n d
bare_body alternate bits form n d bare = ap (λ shown. body_of bits form shown n d) bare

-- the rest of a text that is cut after its prefix
pub rest_is : (prefix text rest body : List ℕ) (n : ℕ) → text ≡ prefix ++ drop n text → rest ≡ drop n text → text ≡ prefix ++ body → rest ≡ body
rest_is prefix text rest body n cut is whole = is ∙ same_rest prefix (drop n text) body (sym cut ∙ whole)
