-- The value of a Number, by the digits from its start on.
use Rattle.std.proofs.Common.{◌≡◌, ℕ, ◌-◌, ◌<◌, ◌≤◌, ◌&&◌, List, length, take, drop, get_or, Some, None, sym, ◌∙◌, ap, ⊎_elim, arith, add-zero, get_or-drop}
use Rattle.std.specs.Prelude.{nat_le}
use Rattle.std.specs.List.{prefix_len}
use Rattle.std.specs.Char.{is_ascii_digit}
use Rattle.std.proofs.lemmas.Bool.{cases_Bool, cases_lt, cond-true, cond-false, and_parts, leb-true}
use Rattle.std.proofs.lemmas.List.Sums.{prefix_len-drop_yes, prefix_len-drop_no, prefix_len-drop_all}
use Rattle.frame_grammar.specs.declared.token_kind.TokenKind.TheVariants.{Number}
use Rattle.kernel_text.specs.declared.mark.Mark.{Mark}
use Rattle.kernel_text.specs.Marks.{kind_of, start_of, end_in, token_in}
use Rattle.kernel_text.specs.Tokens.{front_len, text_of}
use Rattle.kernel_text.specs.Numbers.{value_of, front_value}
use Rattle.kernel_text.proofs.Words.Fronts.{front_number}

-- a front that has a value
record IsValue (value : ℕ) (bytes : List ℕ) : Type 0 where
  some : 1 ≤ prefix_len is_ascii_digit bytes
  value_is : value ≡ value_of (take (prefix_len is_ascii_digit bytes) bytes)

has_value : (most value : ℕ) (bytes : List ℕ) → Some value ≡ front_value most bytes → IsValue value bytes
has_value most value bytes is =
    let n = prefix_len is_ascii_digit bytes in
    let test = nat_le 1 n && nat_le n most in
    ⊎_elim
    (λ few.
    let found : Some value ≡ Some (value_of (take n bytes)) = is ∙ cond-true test (Some (value_of (take n bytes))) None few in
    record { some = leb-true _ _ (and_parts _ _ few).0; value_is = cc })
    (λ other. let none : Some value ≡ None = is ∙ cond-false test (Some (value_of (take n bytes))) None other in cc)
    (cases_Bool test)

-- the digits that the bytes begin with are what stands there
digits_stand : (bytes : List ℕ) → get_or bytes 0 0 < 256 → 1 ≤ prefix_len is_ascii_digit bytes → front_len bytes ≡ prefix_len is_ascii_digit bytes
digits_stand bytes small some =
    ⊎_elim
    (λ more.
    ⊎_elim
    (λ digit. sym (front_number bytes more small digit).len_is ∙ sym (prefix_len-drop_yes is_ascii_digit bytes 0 0 more digit))
    (λ other. absurd (omega (arith, prefix_len-drop_no is_ascii_digit bytes 0 0 more other)))
    (cases_Bool (is_ascii_digit (get_or bytes 0 0))))
    (λ empty. absurd (omega (arith, prefix_len-drop_all is_ascii_digit bytes 0 (omega arith))))
    (cases_lt 0 (length bytes))

-- a Number, where it has a value
pub number_value : (source : List ℕ) (line : ℕ) (mark : Mark) (value most : ℕ) → get_or source (start_of mark) 0 < 256 → kind_of mark ≡ Number
    → Some value ≡ front_value most (drop (start_of mark) source) → value ≡ value_of (text_of source (token_in source line mark))
number_value source line mark value most small kind is =
    let start = start_of mark in
    let bytes = drop start source in
    let h = has_value most value bytes is in
    let first : get_or bytes 0 0 < 256 = omega (arith, get_or-drop start source 0 0, ap (λ n. get_or source n 0) (add-zero start)) in
    let len : end_in source (kind_of mark) start - start ≡ prefix_len is_ascii_digit bytes =
    omega (arith, ap (λ k. end_in source k start) kind, digits_stand bytes first h.some) in
    h.value_is ∙ ap (λ n. value_of (take n bytes)) (sym len)
