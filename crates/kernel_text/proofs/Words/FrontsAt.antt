-- What stands at a place of a file, by its byte there.
use Rattle.std.proofs.Common.{◌≡◌, ◌⊎◌, ℕ, ◌+◌, ◌-◌, ◌<◌, Bool, true, List, [], ◌∷◌, length, take, drop, get_or, Option, Some, None, unwrap_or, ◌∙◌, sym, refl, ap, subst, arith, add-zero, drop-drop, length-drop, get_or-drop}
use Rattle.std.specs.List.{prefix_len}
use Rattle.std.specs.Char.{is_ascii_digit}
use Rattle.frame_grammar.specs.declared.token_kind.TokenKind.{TokenKind}
use Rattle.frame_grammar.specs.declared.token_kind.TokenKind.TheVariants.{Name, Number, Text, Line, Bad}
use Rattle.kernel_text.specs.Spellings.{symbols, reserved_words, spelled}
use Rattle.kernel_text.specs.Words.{begins_name, continues_name, stands_in_text, stays_in_line}
use Rattle.kernel_text.specs.Tokens.{front_kind, front_len}
use Rattle.kernel_text.specs.Fronts.{IsOther}
use Rattle.kernel_text.proofs.Words.Fronts.{IsFront, front_name, front_number, front_blank, front_line, front_comment, front_text, front_quote, front_pair, front_single}

-- a token of this kind, or what separates tokens, stands from a place up to another
pub record IsFrontAt (source : List ℕ) (place : ℕ) (kind : Option TokenKind) (end : ℕ) : Type 0 where
  pub kind_is : kind ≡ front_kind (drop place source)
  pub end_is : end ≡ place + front_len (drop place source)

from_front : (source : List ℕ) (place len end : ℕ) (kind : Option TokenKind) → end ≡ place + len → IsFront (drop place source) kind len
    → IsFrontAt source place kind end
from_front source place len end kind is front = record { kind_is = front.kind_is; end_is = is ∙ ap (λ n. place + n) front.len_is }

some_left : (source : List ℕ) (place : ℕ) → place < length source → 0 < length (drop place source)
some_left source place within = omega (arith, length-drop place source)

first_is : (source : List ℕ) (place : ℕ) → get_or (drop place source) 0 0 ≡ get_or source place 0
first_is source place = get_or-drop place source 0 0 ∙ ap (λ n. get_or source n 0) (add-zero place)

-- the run behind the byte at this place
run_behind : (p : ℕ → Bool) (source : List ℕ) (place : ℕ) → prefix_len p (drop 1 (drop place source)) ≡ prefix_len p (drop (place + 1) source)
run_behind p source place = ap (prefix_len p) (drop-drop 1 place source)

run_end : (p : ℕ → Bool) (source : List ℕ) (place end : ℕ) → end ≡ place + 1 + prefix_len p (drop (place + 1) source)
    → end ≡ place + (1 + prefix_len p (drop 1 (drop place source)))
run_end p source place end is = omega (arith, is, run_behind p source place)

pub at_name : (source : List ℕ) (place end : ℕ) → place < length source → get_or source place 0 < 256 → begins_name (get_or source place 0) ≡ true
    → end ≡ place + 1 + prefix_len continues_name (drop (place + 1) source) →
    IsFrontAt source place (Some (unwrap_or (spelled reserved_words (take (end - place) (drop place source))) Name)) end
at_name source place end within small begins is =
    let text = drop place source in
    let first = first_is source place in
    let len = 1 + prefix_len continues_name (drop 1 text) in
    let end_is = run_end continues_name source place end is in
    let size : end - place ≡ len = omega (arith, end_is) in
    from_front source place len end _ end_is
    (subst (λ n. IsFront text (Some (unwrap_or (spelled reserved_words (take n text)) Name)) len) (sym size)
    (front_name text (some_left source place within) (omega (arith, first, small)) (ap begins_name first ∙ begins)))

pub at_number : (source : List ℕ) (place end : ℕ) → place < length source → get_or source place 0 < 256 → is_ascii_digit (get_or source place 0) ≡ true
    → end ≡ place + 1 + prefix_len is_ascii_digit (drop (place + 1) source) → IsFrontAt source place (Some Number) end
at_number source place end within small begins is =
    let first = first_is source place in
    from_front source place _ end _ (run_end is_ascii_digit source place end is)
    (front_number (drop place source) (some_left source place within) (omega (arith, first, small)) (ap is_ascii_digit first ∙ begins))

pub at_comment : (source : List ℕ) (place end : ℕ) → place < length source → get_or source place 0 ≡ 35
    → end ≡ place + 1 + prefix_len stays_in_line (drop (place + 1) source) → IsFrontAt source place None end
at_comment source place end within begins is =
    from_front source place _ end _ (run_end stays_in_line source place end is)
    (front_comment (drop place source) (some_left source place within) (first_is source place ∙ begins))

-- a tab, a carriage return or a space
pub at_blank : (source : List ℕ) (place : ℕ) → place < length source → (get_or source place 0 ≡ 9)
    ⊎ ((get_or source place 0 ≡ 13) ⊎ (get_or source place 0 ≡ 32)) → IsFrontAt source place None (place + 1)
at_blank source place within begins =
    from_front source place 1 (place + 1) _ refl
    (front_blank (drop place source) (some_left source place within) (subst (λ b. (b ≡ 9) ⊎ ((b ≡ 13) ⊎ (b ≡ 32))) (sym (first_is source place)) begins))

pub at_line : (source : List ℕ) (place : ℕ) → place < length source → get_or source place 0 ≡ 10 → IsFrontAt source place (Some Line) (place + 1)
at_line source place within begins =
    from_front source place 1 (place + 1) _ refl (front_line (drop place source) (some_left source place within) (first_is source place ∙ begins))

-- how many bytes stand between a quote and the next byte that stands in no text, and that byte
inside_is : (source : List ℕ) (place quote : ℕ) → quote ≡ place + 1 + prefix_len stands_in_text (drop (place + 1) source)
    → quote - (place + 1) ≡ prefix_len stands_in_text (drop 1 (drop place source))
inside_is source place quote is = omega (arith, is, run_behind stands_in_text source place)

quote_is : (source : List ℕ) (place quote : ℕ) → place < quote → get_or (drop place source) (quote - (place + 1) + 1) 0 ≡ get_or source quote 0
quote_is source place quote behind =
    let same : place + (quote - (place + 1) + 1) ≡ quote = omega arith in
    get_or-drop place source (quote - (place + 1) + 1) 0 ∙ ap (λ n. get_or source n 0) same

pub at_text : (source : List ℕ) (place quote : ℕ) → place < length source → get_or source place 0 ≡ 34
    → quote ≡ place + 1 + prefix_len stands_in_text (drop (place + 1) source) → place + 1 < quote → quote < length source → get_or source quote 0 ≡ 34 →
    IsFrontAt source place (Some Text) (quote + 1)
at_text source place quote some begins is inside within closes =
    from_front source place (quote - (place + 1) + 2) (quote + 1) _ (omega arith)
    (front_text (drop place source) (quote - (place + 1)) (some_left source place some) (first_is source place ∙ begins) (inside_is source place quote is)
    (omega arith) (omega (arith, length-drop place source)) (quote_is source place quote (omega arith) ∙ closes))

pub at_quote : (source : List ℕ) (place quote : ℕ) → place < length source → get_or source place 0 ≡ 34
    → quote ≡ place + 1 + prefix_len stands_in_text (drop (place + 1) source) → (place + 1 < quote → quote < length source → get_or source quote 0 ≡ 34 → ⊥) →
    IsFrontAt source place (Some Bad) (place + 1)
at_quote source place quote some begins is none =
    from_front source place 1 (place + 1) _ refl
    (front_quote (drop place source) (quote - (place + 1)) (some_left source place some) (first_is source place ∙ begins) (inside_is source place quote is)
    (λ inside within closes. none (omega arith) (omega (arith, length-drop place source)) (sym (quote_is source place quote (omega arith)) ∙ closes)))

two_are : (source : List ℕ) (place : ℕ) → spelled symbols (get_or (drop place source) 0 0 ∷ get_or (drop place source) 1 0 ∷ []) ≡ spelled symbols
    (get_or source place 0 ∷ get_or source (place + 1) 0 ∷ [])
two_are source place = (λ i. spelled symbols (first_is source place i ∷ get_or-drop place source 1 0 i ∷ []))

-- the symbol of two bytes that stands there, if one does
pub at_pair : (source : List ℕ) (place : ℕ) (kind : TokenKind) → place + 1 < length source → IsOther (get_or source place 0)
    → spelled symbols (get_or source place 0 ∷ get_or source (place + 1) 0 ∷ []) ≡ Some kind →
    IsFrontAt source place (Some kind) (place + 1 + 1)
at_pair source place kind two other pair =
    from_front source place 2 (place + 1 + 1) _ (omega arith)
    (front_pair (drop place source) kind (omega (arith, length-drop place source)) (subst IsOther (sym (first_is source place)) other)
    (two_are source place ∙ pair))

-- the symbol of one byte, else the byte is no token
pub at_single : (source : List ℕ) (place : ℕ) (kind : Option TokenKind) → place < length source → IsOther (get_or source place 0)
    → (place + 1 < length source → spelled symbols (get_or source place 0 ∷ get_or source (place + 1) 0 ∷ []) ≡ None)
    → spelled symbols (get_or source place 0 ∷ []) ≡ kind →
    IsFrontAt source place (Some (unwrap_or kind Bad)) (place + 1)
at_single source place kind within other pair single =
    from_front source place 1 (place + 1) _ refl
    (front_single (drop place source) kind (some_left source place within) (subst IsOther (sym (first_is source place)) other)
    (λ two. two_are source place ∙ pair (omega (arith, length-drop place source))) (ap (λ b. spelled symbols (b ∷ [])) (first_is source place) ∙ single))
