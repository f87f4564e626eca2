-- What the arguments of the program ask for.
use Rattle.std.specs.Prelude.{◌≡◌, ◌≢◌, ◌⊎◌, ◌++◌, ◌∷◌, [], ℕ, Bool, true, false, List, codes, Option, None, Some, option_map, string_bytes, unwrap_or}
use Rattle.ratio_expressions.specs.declared.replies.form.Form.{Form}
use Rattle.ratio_expressions.specs.declared.replies.form.Form.TheVariants as forms
use Rattle.ratio.specs.declared.fault.Fault.{Fault}
use Rattle.ratio.specs.declared.fault.Fault.TheVariants as faults
use Rattle.ratio.specs.declared.option.Page.{Page}
use Rattle.ratio.specs.declared.option.Page.TheVariants as pages
use Rattle.ratio.specs.declared.option.Asked.TheVariants as asks
use Rattle.ratio.specs.declared.request.Next.{Next}
use Rattle.ratio.specs.declared.request.Next.TheVariants as nexts
use Rattle.ratio.specs.declared.request.Request.{Request}
use Rattle.ratio.specs.declared.request.Request.TheVariants as requests
use Rattle.ratio.specs.declared.request.SoFar.{SoFar}
use Rattle.ratio.specs.Options.{LacksNumber, SaysPlaces, is_option, option_named}

-- what an argument asks for: a page, a form, one line for each line (`--lines`), or a part of the expression
pub data Wish : Type 0 where
  OfPage : Page → Wish
  OfForm : Form → Wish
  OfLines : Wish
  OfText : List ℕ → Wish

-- what arguments ask for, the last first, and what comes next: any argument, the number of places behind `--decimal`, or text alone behind `--`
-- Example: `--mixed` and `1/2`: the text `1/2` and the form `Mixed`, and any argument comes next
pub data Say : List (List ℕ) → List Wish → Next → Type 0 where
  says_nothing : Say [] [] nexts.Any
  says_text : (ws : List (List ℕ)) (w : List ℕ) (wishes : List Wish) → Say ws wishes nexts.Any → is_option w ≡ false → Say (ws ++ w ∷ []) (OfText w ∷ wishes) nexts.Any
  says_form : (ws : List (List ℕ)) (w : List ℕ) (wishes : List Wish) (f : Form) → Say ws wishes nexts.Any → option_named w ≡ Some (asks.Form f) → Say (ws ++ w ∷ []) (OfForm f ∷ wishes) nexts.Any
  says_page : (ws : List (List ℕ)) (w : List ℕ) (wishes : List Wish) (p : Page) → Say ws wishes nexts.Any → option_named w ≡ Some (asks.Page p) → Say (ws ++ w ∷ []) (OfPage p ∷ wishes) nexts.Any
  says_lines : (ws : List (List ℕ)) (w : List ℕ) (wishes : List Wish) → Say ws wishes nexts.Any → option_named w ≡ Some asks.Lines → Say (ws ++ w ∷ []) (OfLines ∷ wishes) nexts.Any
  says_number : (ws : List (List ℕ)) (w : List ℕ) (wishes : List Wish) (number : List ℕ) (n : ℕ) → Say ws wishes nexts.Any → w ≡ codes "--decimal=" ++ number → SaysPlaces number n
      → Say (ws ++ w ∷ []) (OfForm (forms.Decimal n) ∷ wishes) nexts.Any
  wants_places : (ws : List (List ℕ)) (w : List ℕ) (wishes : List Wish) → Say ws wishes nexts.Any → option_named w ≡ Some asks.Places → Say (ws ++ w ∷ []) wishes nexts.Places
  says_places : (ws : List (List ℕ)) (w : List ℕ) (wishes : List Wish) (n : ℕ) → Say ws wishes nexts.Places → SaysPlaces w n → Say (ws ++ w ∷ []) (OfForm (forms.Decimal n) ∷ wishes) nexts.Any
  ends_options : (ws : List (List ℕ)) (w : List ℕ) (wishes : List Wish) → Say ws wishes nexts.Any → option_named w ≡ Some asks.End → Say (ws ++ w ∷ []) wishes nexts.Text
  says_behind : (ws : List (List ℕ)) (w : List ℕ) (wishes : List Wish) → Say ws wishes nexts.Text → Say (ws ++ w ∷ []) (OfText w ∷ wishes) nexts.Text

-- the last page
-- Example: of `--help`, `1/2` and `--version`: `Version`
abbrev pub page_of : List Wish → Option Page
page_of [] = None
page_of (OfPage p ∷ wishes) = Some p
page_of (OfForm f ∷ wishes) = page_of wishes
page_of (OfLines ∷ wishes) = page_of wishes
page_of (OfText w ∷ wishes) = page_of wishes

-- the last form
-- Example: of `--mixed`, `1/2` and `--both`: `Both`
abbrev pub form_of : List Wish → Option Form
form_of [] = None
form_of (OfPage p ∷ wishes) = form_of wishes
form_of (OfForm f ∷ wishes) = Some f
form_of (OfLines ∷ wishes) = form_of wishes
form_of (OfText w ∷ wishes) = form_of wishes

-- whether one line is asked for each line
-- Example: of `--lines` and `--mixed`: true
abbrev pub paired_of : List Wish → Bool
paired_of [] = false
paired_of (OfPage p ∷ wishes) = paired_of wishes
paired_of (OfForm f ∷ wishes) = paired_of wishes
paired_of (OfLines ∷ wishes) = true
paired_of (OfText w ∷ wishes) = paired_of wishes

-- a part of an expression behind the others, with a space between
-- Example: `1/2 +` and `1/3`: `1/2 + 1/3`
abbrev pub behind_text : Option (List ℕ) → List ℕ → List ℕ
behind_text None w = w
behind_text (Some text) w = text ++ 32 ∷ [] ++ w

-- the expression, if there is a part of it
-- Example: of `1/2`, `--mixed` and `+ 1`: `1/2 + 1`
abbrev pub expression_of : List Wish → Option (List ℕ)
expression_of [] = None
expression_of (OfPage p ∷ wishes) = expression_of wishes
expression_of (OfForm f ∷ wishes) = expression_of wishes
expression_of (OfLines ∷ wishes) = expression_of wishes
expression_of (OfText w ∷ wishes) = Some (behind_text (expression_of wishes) w)

-- what is asked for: the last page before all; or else the value of the expression, or of lines if there is none, in the last form. The last
-- argument isn't a `--decimal` then
abbrev pub Asks : List Wish → Next → Request → Type 0
Asks wishes n requests.Help = page_of wishes ≡ Some pages.Help
Asks wishes n requests.Version = page_of wishes ≡ Some pages.Version
Asks wishes n (requests.Expression text form) = (page_of wishes ≡ None) × (n ≢ nexts.Places) × (expression_of wishes ≡ Some text.items) × (form ≡ unwrap_or (form_of wishes) forms.Fraction)
Asks wishes n (requests.Lines form paired) = (page_of wishes ≡ None) × (n ≢ nexts.Places) × (expression_of wishes ≡ None) × (form ≡ form_of wishes) × (paired ≡ paired_of wishes)

-- the request is what the arguments ask for
-- Example: `1/2 + --mixed 1/3`: the value of `1/2 + 1/3`, in `Mixed`
pub record IsAskedBy (ws : List (List ℕ)) (r : Request) : Type 0 where
  pub wishes : List Wish
  pub next : Next
  pub say : Say ws wishes next
  pub asks : Asks wishes next r

-- no option has this name, and none with a number behind `=`
-- Example: `--hlp`
abbrev pub IsUnknown : List ℕ → Type 0
IsUnknown w = (option_named w ≡ None) × LacksNumber w

-- a number of places has to come behind these arguments, and this one says none
-- Example: behind `--decimal`: `x`
abbrev pub WantsPlaces : List (List ℕ) → List ℕ → List Wish → Type 0
WantsPlaces ws w wishes = Say ws wishes nexts.Places × ((n : ℕ) → ¬ SaysPlaces w n)

-- behind these arguments, this one is `--decimal=` with no number of places behind it
-- Example: `--decimal=x`
abbrev pub HasNoPlaces : List (List ℕ) → List ℕ → List Wish → Type 0
HasNoPlaces ws w wishes = Say ws wishes nexts.Any × (number : List ℕ) × (w ≡ codes "--decimal=" ++ number) × ((n : ℕ) → ¬ SaysPlaces number n)

-- behind these arguments, this one is refused: no option has its name, or it says no number of places; or memory ran out at a part of the
-- expression, or at an option of no known name
-- Example: `--hlp`: `UnknownOption` or `Memory`; `1/2`: `Memory`; `--mixed`: no fault
abbrev pub RefusesNext : List (List ℕ) → List ℕ → Fault → Type 0
RefusesNext ws w (faults.UnknownOption name) = (wishes : List Wish) × Say ws wishes nexts.Any × (is_option w ≡ true) × IsUnknown w × (string_bytes name ≡ w)
RefusesNext ws w faults.NoPlaces = (wishes : List Wish) × (WantsPlaces ws w wishes ⊎ HasNoPlaces ws w wishes)
RefusesNext ws w faults.Memory = (wishes : List Wish) × (Say ws wishes nexts.Text ⊎ (Say ws wishes nexts.Any × ((is_option w ≡ false) ⊎ IsUnknown w)))
RefusesNext ws w fault = ⊥

-- the first argument that is refused
pub record RefusesOne (ws : List (List ℕ)) (fault : Fault) : Type 0 where
  pub front : List (List ℕ)
  pub word : List ℕ
  pub rest : List (List ℕ)
  pub split : ws ≡ front ++ word ∷ rest
  pub refuses : RefusesNext front word fault

-- the last argument is `--decimal`, and no page is asked for
pub record EndsInDecimal (ws : List (List ℕ)) : Type 0 where
  pub wishes : List Wish
  pub say : Say ws wishes nexts.Places
  pub no_page : page_of wishes ≡ None

-- why the arguments are refused
-- Example: `--foo`: `UnknownOption`; `--decimal`: `NoPlaces`
abbrev pub RefusesArguments : List (List ℕ) → Fault → Type 0
RefusesArguments ws fault = RefusesOne ws fault ⊎ ((fault ≡ faults.NoPlaces) × EndsInDecimal ws)

-- Inner: this is what the arguments ask for so far
pub record IsSoFar (ws : List (List ℕ)) (x : SoFar) : Type 0 where
  pub wishes : List Wish
  pub say : Say ws wishes x.next
  pub page : x.page ≡ page_of wishes
  pub form : x.form ≡ form_of wishes
  pub paired : x.paired ≡ paired_of wishes
  pub text : option_map (λ t. t.items) x.text ≡ expression_of wishes
