-- What two bytes show of a token: a name of one letter, and a Number of few digits.
use Rattle.std.proofs.Common.{◌≡◌, ℕ, zero, suc, ◌+◌, ◌-◌, ◌*◌, ◌<◌, ◌≤◌, ◌^◌, ◌&&◌, true, false, not, min, List, length, take, drop, get_or, Some, None, refl, sym, ◌∙◌, ap, subst, ⊎_elim, arith, get_or-drop, drop-cons, [], ◌∷◌, ◌==◌}
use Rattle.std.specs.Str.{bytes_eq}
use Rattle.std.specs.Prelude.{nat_le, nat_lt}
use Rattle.std.specs.List.{prefix_len}
use Rattle.std.specs.Char.{is_ascii_digit, is_ascii_alphabetic}
use Rattle.std.proofs.lemmas.Bool.{and_parts, and_right, ltb-true, eq-eqb, ne_eqb, ne_eqb, and_right, and_from, not-true, or_left, cases_lt, cond-true, le-leb, lt-ltb, le-ltb}
use Rattle.std.proofs.lemmas.Bool.Decides.{nat_tests}
use Rattle.std.proofs.lemmas.List.Sums.{prefix_len_passes, prefix_len-drop_yes, prefix_len-drop_no, fold_more}
use Rattle.std.proofs.Math.Nat.{pow-suc, pow-le-pow_right}
use Rattle.frame_grammar.specs.declared.token_kind.TokenKind.{TokenKind}
use Rattle.frame_grammar.specs.declared.token_kind.TokenKind.TheVariants.{Number, End}
use Rattle.kernel_text.specs.declared.mark.Mark.{Mark}
use Rattle.kernel_text.specs.Marks.{kind_of, start_of, end_in, token_in}
use Rattle.kernel_text.specs.Tokens.{front_len, text_of}
use Rattle.kernel_text.specs.Words.{continues_name}
use Rattle.kernel_text.specs.Letters.{is_end, is_letter}
use Rattle.kernel_text.specs.Numbers.{value_of, front_value}
use Rattle.kernel_text.proofs.Words.FrontsAt.{at_name}
use Rattle.kernel_text.proofs.Words.Runs.{prefix_len-le}
use Rattle.kernel_text.proofs.Values.{number_value}

-- a letter that the next byte doesn't continue is all that stands there
lone_letter : (source : List ℕ) (place : ℕ) → place + 1 < length source → get_or source place 0 < 256 → is_ascii_alphabetic (get_or source place 0) ≡ true
    → continues_name (get_or source (place + 1) 0) ≡ false → front_len (drop place source) ≡ 1
lone_letter source place within small letter ended =
    let none = prefix_len-drop_no continues_name source (place + 1) 0 within ended in
    let there = at_name source place (place + 1) (omega arith) small (or_left _ _ letter) (omega (arith, none)) in
    omega (arith, there.end_is)

-- any token but an end ends behind what the file has there
ends_behind : (source : List ℕ) (kind : TokenKind) (start : ℕ) → is_end kind ≡ false → end_in source kind start ≡ start + front_len (drop start source)
ends_behind source End start other = cc
ends_behind source _ start other = refl

-- the text of a token of one letter
pub letter_text : (source : List ℕ) (line : ℕ) (mark : Mark) → get_or source (start_of mark) 0 < 256 → is_letter source mark ≡ true
    → take 1 (drop (start_of mark) source) ≡ text_of source (token_in source line mark)
letter_text source line mark small letter =
    let start = start_of mark in
    let first = is_ascii_alphabetic (get_or source start 0) in
    let more = not (continues_name (get_or source (start + 1) 0)) in
    let within = and_parts (nat_lt (start + 1) (length source)) (not (is_end (kind_of mark)) && (first && more)) letter in
    let other = and_parts (not (is_end (kind_of mark))) (first && more) within.1 in
    let bytes = and_parts first more other.1 in
    let lone = lone_letter source start (ltb-true _ _ within.0) small bytes.0 (not-true _ bytes.1) in
    let len : 1 ≡ end_in source (kind_of mark) start - start = omega (arith, ends_behind source (kind_of mark) start (not-true _ other.0), lone) in
    ap (λ n. take n (drop start source)) len

one_byte : (byte : ℕ) (name : List ℕ) → 0 < length name → byte ≡ get_or name 0 0 → (length name == 1) ≡ bytes_eq (byte ∷ []) name
one_byte byte [] some first = absurd (omega arith)
one_byte byte (other ∷ []) some first = sym (ap (λ b. b && true) (eq-eqb byte other first))
one_byte byte (other ∷ next ∷ more) some first = ne_eqb _ _ (λ one. omega (arith, one)) ∙ sym (and_right (byte == other) false refl)

first_byte : (source : List ℕ) (start : ℕ) → start < length source → take 1 (drop start source) ≡ get_or source start 0 ∷ []
first_byte source start within = ap (take 1) (drop-cons source start 0 within)

-- a token of one letter is spelled by that letter alone
pub letter_spelled : (source : List ℕ) (line : ℕ) (mark : Mark) (name : List ℕ) → get_or source (start_of mark) 0 < 256 → is_letter source mark ≡ true
    → start_of mark < length source → 0 < length name →
    get_or source (start_of mark) 0 ≡ get_or name 0 0 → (length name == 1) ≡ bytes_eq (text_of source (token_in source line mark)) name
letter_spelled source line mark name small letter within some first =
    one_byte (get_or source (start_of mark) 0) name some first
    ∙ ap (λ text. bytes_eq text name) (sym (first_byte source (start_of mark) within) ∙ letter_text source line mark small letter)

digit_range : (byte : ℕ) → is_ascii_digit byte ≡ true → byte - 48 ≤ 9
digit_range byte is = grind (arith, nat_tests)

next_value : (value digit power : ℕ) → value + 1 ≤ power → digit ≤ 9 → 10 * value + digit + 1 ≤ power * 10
next_value value digit power small few = omega arith

-- so many digits have a value of no more digits
small_value : (bytes : List ℕ) (n : ℕ) → n ≤ prefix_len is_ascii_digit bytes → value_of (take n bytes) + 1 ≤ 10 ^ n
small_value bytes zero few = omega arith
small_value bytes (suc n) few =
    let digit = prefix_len_passes is_ascii_digit bytes n 0 (omega arith) in
    let more = fold_more (λ value digit. 10 * value + (digit - 48)) 0 bytes n 0 (omega (arith, prefix_len-le is_ascii_digit bytes)) in
    let next : suc n ≡ n + 1 = omega arith in
    let grown = next_value (value_of (take n bytes)) (get_or bytes n 0 - 48) (10 ^ n) (small_value bytes n (omega arith)) (digit_range _ digit) in
    omega (arith, grown, more, ap (λ k. value_of (take k bytes)) next, pow-suc 10 n)

-- the value of a Number of no more than four digits
pub few_digits : (source : List ℕ) (line start : ℕ) (mark : Mark) (most : ℕ) → start ≡ start_of mark → start + 4 < length source → get_or source start 0 < 256
    → kind_of mark ≡ Number →
    is_ascii_digit (get_or source start 0) ≡ true → is_ascii_digit (get_or source (start + 4) 0) ≡ false → 9999 ≤ most
    → false ≡ nat_lt most (value_of (text_of source (token_in source line mark)))
few_digits source line start mark most is within small kind digit ended great =
    let bytes = drop start source in
    let n = prefix_len is_ascii_digit bytes in
    let some : 1 ≤ n = omega (arith, prefix_len-drop_yes is_ascii_digit source start 0 (omega arith) digit) in
    let few : n ≤ 4 = ⊎_elim
    (λ many.
    let passes : true ≡ false = sym (prefix_len_passes is_ascii_digit bytes 4 0 many) ∙ ap is_ascii_digit (get_or-drop start source 4 0) ∙ ended in
    cc)
    (λ low. low)
    (cases_lt 4 n) in
    let value = value_of (take n bytes) in
    let front : Some value ≡ front_value 17 bytes =
    sym (cond-true (nat_le 1 n && nat_le n 17) (Some value) None (and_from _ _ (le-leb _ _ some) (le-leb _ _ (omega arith)))) in
    let text : value ≡ value_of (text_of source (token_in source line mark)) =
    number_value source line mark value 17 (subst (λ k. get_or source k 0 < 256) is small) kind (front ∙ ap (λ k. front_value 17 (drop k source)) is) in
    let most_of_four : 10 ^ n ≤ 10 ^ 4 = pow-le-pow_right (omega arith) few in
    sym (le-ltb _ _ (omega (arith, small_value bytes n (omega arith), most_of_four, text)))

-- a value that is kept in 64 bits is greater than a number where it is so itself
pub above_most : (most kept value : ℕ) → most < 18446744073709551615 → kept ≡ min 18446744073709551615 value → nat_lt most kept ≡ nat_lt most value
above_most most kept value small is =
    ⊎_elim
    (λ above. lt-ltb most kept (omega arith) ∙ sym (lt-ltb most value above))
    (λ below. le-ltb most kept (omega arith) ∙ sym (le-ltb most value below))
    (cases_lt most value)
