-- A text is shown in one way.
use Rattle.std.proofs.Common.{◌≡◌, ◌∙◌, ℕ, List, Option, sym}
use Rattle.ratio_expressions.specs.Expression.{IsExpression}
use Rattle.ratio_expressions.specs.Grammar.{Tree}
use Rattle.ratio_expressions.specs.Nesting.{IsShallow}
use Rattle.ratio_expressions.specs.Slashes.{IsShownAs}

pub shown_once : (text : List ℕ) (t : Tree) (shown other : Option (List ℕ)) → IsExpression text t → IsShallow text → IsShownAs text shown → IsShownAs text other → shown ≡ other
shown_once text t shown other has shallow h g = h.same t has shallow ∙ sym (g.same t has shallow)
