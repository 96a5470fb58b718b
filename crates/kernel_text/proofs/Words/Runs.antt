-- How far a run of bytes goes, and the longest word where the words are such runs.
use Rattle.std.proofs.Common.{◌≡◌, ℕ, zero, suc, ◌+◌, ◌<◌, ◌≤◌, Bool, true, false, List, [], ◌∷◌, length, take, drop, get_or, ◌∙◌, refl, sym, ap, ⊎_elim, arith, length-drop, get_or-drop}
use Rattle.std.proofs.lemmas.List.Sums.{prefix_len-drop_yes}
use Rattle.std.specs.List.{list_all, prefix_len}
use Rattle.std.proofs.lemmas.Bool.{cases_Bool, cond-true, cond-false, and_left, and_right, and_from}
use Rattle.kernel_text.specs.Words.{is_word}
use Rattle.kernel_text.specs.Tokens.{longest}
use Rattle.kernel_text.proofs.Words.Longest.{longest_up_to_is}

-- a run that goes on has one element more
prefix_len-pass : (p : ℕ → Bool) (x : ℕ) (xs : List ℕ) → p x ≡ true → prefix_len p (x ∷ xs) ≡ suc (prefix_len p xs)
prefix_len-pass p x xs pass = cond-true _ _ _ pass ∙ omega arith

prefix_len-fail : (p : ℕ → Bool) (x : ℕ) (xs : List ℕ) → p x ≡ false → prefix_len p (x ∷ xs) ≡ 0
prefix_len-fail p x xs fail = cond-false _ _ _ fail

pub prefix_len-le : (p : ℕ → Bool) (xs : List ℕ) → prefix_len p xs ≤ length xs
prefix_len-le p [] = omega arith
prefix_len-le p (x ∷ xs) =
    ⊎_elim
    (λ pass. omega (arith, prefix_len-pass p x xs pass, prefix_len-le p xs))
    (λ fail. omega (arith, prefix_len-fail p x xs fail))
    (cases_Bool (p x))

-- each byte of the run passes
pub run_passes : (p : ℕ → Bool) (xs : List ℕ) → list_all p (take (prefix_len p xs) xs) ≡ true
run_passes p [] = refl
run_passes p (x ∷ xs) =
    ⊎_elim
    (λ pass. ap (λ n. list_all p (take n (x ∷ xs))) (prefix_len-pass p x xs pass) ∙ and_from _ _ pass (run_passes p xs))
    (λ fail. ap (λ n. list_all p (take n (x ∷ xs))) (prefix_len-fail p x xs fail))
    (cases_Bool (p x))

-- the byte behind the run doesn't
pub run_ends : (p : ℕ → Bool) (xs : List ℕ) → prefix_len p xs < length xs → p (get_or xs (prefix_len p xs) 0) ≡ false
run_ends p [] within = absurd (omega arith)
run_ends p (x ∷ xs) within =
    ⊎_elim
    (λ pass. ap (λ n. p (get_or (x ∷ xs) n 0)) (prefix_len-pass p x xs pass) ∙ run_ends p xs (omega (arith, prefix_len-pass p x xs pass)))
    (λ fail. ap (λ n. p (get_or (x ∷ xs) n 0)) (prefix_len-fail p x xs fail) ∙ fail)
    (cases_Bool (p x))

-- some byte of a longer front doesn't
pub run_stops : (p : ℕ → Bool) (xs : List ℕ) (m : ℕ) → prefix_len p xs < m → m ≤ length xs → list_all p (take m xs) ≡ false
run_stops p xs zero above within = absurd (omega arith)
run_stops p [] (suc m) above within = absurd (omega arith)
run_stops p (x ∷ xs) (suc m) above within =
    ⊎_elim
    (λ pass. and_right _ _ (run_stops p xs m (omega (arith, prefix_len-pass p x xs pass)) (omega arith)))
    (λ fail. and_left _ _ fail)
    (cases_Bool (p x))

longer_fails : (p : ℕ → Bool) (first : ℕ) (others : List ℕ) → ((word : List ℕ) → is_word (first ∷ word) ≡ list_all p word) → (m : ℕ)
    → suc (prefix_len p others) < m → m ≤ length (first ∷ others) → is_word (take m (first ∷ others)) ≡ false
longer_fails p first others words zero above within = absurd (omega arith)
longer_fails p first others words (suc m) above within = words (take m others) ∙ run_stops p others m (omega arith) (omega arith)

-- where the words with this first byte are the runs, the longest is the run
pub longest_run : (p : ℕ → Bool) (first : ℕ) (others : List ℕ) → ((word : List ℕ) → is_word (first ∷ word) ≡ list_all p word)
    → longest (first ∷ others) ≡ suc (prefix_len p others)
longest_run p first others words =
    longest_up_to_is (length (first ∷ others)) (first ∷ others) (suc (prefix_len p others))
    (omega (arith, prefix_len-le p others))
    (λ _. words (take (prefix_len p others) others) ∙ run_passes p others)
    (longer_fails p first others words)

-- a run of which the bytes from a place on are at hand goes on by one that passes
pub run_on : (p : ℕ → Bool) (xs rest : List ℕ) (end k m total : ℕ) → rest ≡ drop end xs → m ≡ end + k → k < length rest → p (get_or rest k 0) ≡ true →
    m + prefix_len p (drop m xs) ≡ total → m + 1 + prefix_len p (drop (m + 1) xs) ≡ total
run_on p xs rest end k m total is at within pass run =
    let read : p (get_or xs m 0) ≡ true = ap (λ n. p (get_or xs n 0)) at ∙ ap p (sym (get_or-drop end xs k 0)) ∙ ap (λ ys. p (get_or ys k 0)) (sym is) ∙ pass in
    let inside : m < length xs = omega (arith, at, within, ap length is, length-drop end xs) in
    omega (arith, run, prefix_len-drop_yes p xs m 0 inside read)
