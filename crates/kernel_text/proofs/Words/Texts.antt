-- The longest word where the first byte is a quote.
use Rattle.std.proofs.Common.{◌≡◌, ℕ, zero, suc, ◌<◌, ◌≤◌, true, false, true≢false, Some, List, [], ◌∷◌, length, take, get_or, ◌∙◌, sym, refl, arith}
use Rattle.std.specs.List.{list_all, prefix_len}
use Rattle.std.proofs.lemmas.Bool.{cond-true, and_left, and_right, and_parts, and_from, eq-eqb, ne_eqb, not_from_true}
use Rattle.frame_grammar.specs.declared.token_kind.TokenKind.TheVariants.{Text}
use Rattle.kernel_text.specs.Words.{stands_in_text, closes_text, is_text, is_word, kind_of}
use Rattle.kernel_text.specs.Tokens.{longest}
use Rattle.kernel_text.proofs.Words.Longest.{longest_up_to_is}
use Rattle.kernel_text.proofs.Words.Runs.{run_passes, run_ends}
use Rattle.kernel_text.proofs.Words.FirstBytes.{texts, kind_of-text}

-- a byte of a text is no quote
no_quote : (byte : ℕ) → stands_in_text byte ≡ true → byte ≡ 34 → ⊥
no_quote byte stands quote =
    true≢false (sym (and_parts _ _ stands).1 ∙ not_from_true _ (eq-eqb byte 34 quote))

-- n bytes that stand in a text, and a quote behind them, close a text
closes : (n : ℕ) (bytes : List ℕ) → list_all stands_in_text (take n bytes) ≡ true → n < length bytes → get_or bytes n 0 ≡ 34
    → closes_text (take (suc n) bytes) ≡ true
unfolding closes_text
closes n [] stand within quote = absurd (omega arith)
closes zero (byte ∷ bytes) stand within quote = eq-eqb byte 34 quote
closes (suc n) (byte ∷ []) stand within quote = absurd (omega arith)
closes (suc n) (byte ∷ next ∷ bytes) stand within quote =
    let parts = and_parts _ _ stand in
    and_from _ _ parts.0 (closes n (next ∷ bytes) parts.1 (omega arith) quote)

-- no other front closes one
closes_fails : (n : ℕ) (bytes : List ℕ) (m : ℕ) → list_all stands_in_text (take n bytes) ≡ true → (n < length bytes → stands_in_text (get_or bytes n 0) ≡ false)
    → m ≤ length bytes → (m ≡ suc n → get_or bytes n 0 ≡ 34 → ⊥) → closes_text (take m bytes) ≡ false
unfolding closes_text
closes_fails n bytes zero stand stops within apart = refl
closes_fails n [] (suc m) stand stops within apart = absurd (omega arith)
closes_fails zero (byte ∷ bytes) (suc zero) stand stops within apart = ne_eqb byte 34 (apart refl)
closes_fails (suc n) (byte ∷ bytes) (suc zero) stand stops within apart = ne_eqb byte 34 (no_quote byte (and_parts _ _ stand).0)
closes_fails n (byte ∷ []) (suc (suc m)) stand stops within apart = absurd (omega arith)
closes_fails zero (byte ∷ next ∷ bytes) (suc (suc m)) stand stops within apart = and_left _ _ (stops (omega arith))
closes_fails (suc n) (byte ∷ next ∷ bytes) (suc (suc m)) stand stops within apart =
    and_right _ _ (closes_fails n (next ∷ bytes) (suc m) (and_parts _ _ stand).1 (λ more. stops (omega arith)) (omega arith) (λ same. apart (omega arith)))

text_is : (n : ℕ) (bytes : List ℕ) → 0 < n → list_all stands_in_text (take n bytes) ≡ true → n < length bytes → get_or bytes n 0 ≡ 34
    → is_text (34 ∷ take (suc n) bytes) ≡ true
unfolding is_text
text_is zero bytes some stand within quote = absurd (omega arith)
text_is (suc n) [] some stand within quote = absurd (omega arith)
text_is (suc n) (byte ∷ bytes) some stand within quote =
    let parts = and_parts _ _ stand in
    and_from _ _ parts.0 (closes n bytes parts.1 (omega arith) quote)

text_fails : (n : ℕ) (bytes : List ℕ) (m : ℕ) → list_all stands_in_text (take n bytes) ≡ true → (n < length bytes → stands_in_text (get_or bytes n 0) ≡ false)
    → m ≤ length bytes → (0 < n → m ≡ suc n → get_or bytes n 0 ≡ 34 → ⊥) → is_text (34 ∷ take m bytes) ≡ false
unfolding is_text
text_fails n bytes zero stand stops within apart = refl
text_fails n [] (suc m) stand stops within apart = absurd (omega arith)
text_fails zero (byte ∷ bytes) (suc m) stand stops within apart = and_left _ _ (stops (omega arith))
text_fails (suc n) (byte ∷ bytes) (suc m) stand stops within apart =
    and_right _ _ (closes_fails n bytes m (and_parts _ _ stand).1 (λ more. stops (omega arith)) (omega arith) (λ same. apart (omega arith) (omega arith)))

fronts_fail : (bytes : List ℕ) (n : ℕ) → (0 < prefix_len stands_in_text bytes → prefix_len stands_in_text bytes < length bytes
    → get_or bytes (prefix_len stands_in_text bytes) 0 ≡ 34 → suc (suc (prefix_len stands_in_text bytes)) ≤ n) → (m : ℕ) → n < m → m ≤ length (34 ∷ bytes)
    → is_word (take m (34 ∷ bytes)) ≡ false
fronts_fail bytes n known zero above within = absurd (omega arith)
fronts_fail bytes n known (suc m) above within =
    texts (take m bytes)
    ∙ text_fails (prefix_len stands_in_text bytes) bytes m (run_passes stands_in_text bytes) (run_ends stands_in_text bytes) (omega arith)
    (λ some same quote. let low = known some (omega arith) quote in absurd (omega arith))

-- a quote, bytes of a text, and a quote
pub longest_text : (bytes : List ℕ) → 0 < prefix_len stands_in_text bytes → prefix_len stands_in_text bytes < length bytes
    → get_or bytes (prefix_len stands_in_text bytes) 0 ≡ 34 → longest (34 ∷ bytes) ≡ suc (suc (prefix_len stands_in_text bytes))
longest_text bytes some within quote =
    longest_up_to_is (length (34 ∷ bytes)) (34 ∷ bytes) (suc (suc (prefix_len stands_in_text bytes))) (omega arith)
    (λ _. texts (take (suc (prefix_len stands_in_text bytes)) bytes) ∙ text_is (prefix_len stands_in_text bytes) bytes some
    (run_passes stands_in_text bytes) within quote)
    (fronts_fail bytes (suc (suc (prefix_len stands_in_text bytes))) (λ _ _ _. omega arith))

-- the bytes of this text
pub kind_of_text : (bytes : List ℕ) → 0 < prefix_len stands_in_text bytes → prefix_len stands_in_text bytes < length bytes
    → get_or bytes (prefix_len stands_in_text bytes) 0 ≡ 34 → kind_of (34 ∷ take (suc (prefix_len stands_in_text bytes)) bytes) ≡ Some Text
kind_of_text bytes some within quote =
    kind_of-text (take (suc (prefix_len stands_in_text bytes)) bytes) ∙ cond-true _ _ _
    (text_is (prefix_len stands_in_text bytes) bytes some (run_passes stands_in_text bytes) within quote)

-- a quote that begins no text
pub longest_quote : (bytes : List ℕ) → (0 < prefix_len stands_in_text bytes → prefix_len stands_in_text bytes < length bytes
    → get_or bytes (prefix_len stands_in_text bytes) 0 ≡ 34 → ⊥) → longest (34 ∷ bytes) ≡ 0
longest_quote bytes none =
    longest_up_to_is (length (34 ∷ bytes)) (34 ∷ bytes) 0 (omega arith) (λ some. absurd (omega arith))
    (fronts_fail bytes 0 (λ some within quote. absurd (none some within quote)))
