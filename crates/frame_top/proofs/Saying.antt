-- What is answered when nothing waits any more.
use Rattle.std.proofs.Common.{◌≡◌, ◌⊎◌, ⊎_elim, ℕ, List, [], ◌∷◌, ◌++◌, length, take, Option, Bool, true, false, refl, sym, ap, subst, ◌∙◌, append-nil}
use Rattle.std.specs.Io.KnownBytes.{Appends}
use Rattle.job_base.proofs.Parts.{stop_first}
use Rattle.plan_run.specs.Says.{SaysTo}
use Rattle.command_words.specs.Words.{Text}
use Rattle.frame_top.specs.Answers.{Answers, Caused, Early, Midway, Said, SaidTo, Whole, Part}
use Rattle.frame_top.specs.Refusals.{Answer, answer}
use Rattle.frame_top.specs.declared.status.TheConstants.{NO_MEMORY, UNWRITTEN}

take_all : (a : List ℕ) → take (length a) a ≡ a
take_all [] = refl
take_all (x ∷ a) = ap (λ l. x ∷ l) (take_all a)

-- a text was said, and none of it waits
pub closed : {S : Type 0} (taken : S → Option (List ℕ)) (faults : S → ℕ) (old new : S) (waits : List ℕ) (failed : Bool) (text : List ℕ) (status result : ℕ)
    → SaysTo taken faults old [] false new waits failed text → (failed ≡ false → waits ≡ []) → (failed ≡ false → result ≡ status)
    → (failed ≡ true → result ≡ UNWRITTEN)
    → SaidTo taken faults old new (answer status text) result
closed taken faults old new waits true text status result says none whole unwritten =
    let u = says.part refl refl in Part (unwritten refl) u.0.0 u.0.1 u.1
closed taken faults old new waits false text status result says none whole unwritten =
    let u = says.whole refl refl in
    let all : text ≡ u.0.bytes = u.0.whole ∙ (ap (λ l. u.0.bytes ++ l) (none refl) ∙ append-nil u.0.bytes) in
    Whole (whole refl) (subst (λ l. Appends (taken old) (taken new) l) (sym all) u.0.taken) u.1

-- Memory was wanting after these lines, with which a text begins: there were none, or the text may be cut.
pub stop_answers : (cause : Answer → Type 0) (cut : Text → Type 0) (old new : Option Text) (before now status result : ℕ) (lines more : List ℕ)
    → cause (answer status (lines ++ more)) → (lines ≡ []) ⊎ cut (lines ++ more)
    → Said old new before now (answer NO_MEMORY lines) result → Answers cause cut old new before now result
stop_answers cause cut old new before now status result lines more why from (Whole is app same) =
    ⊎_elim (λ none. Early is (subst (λ l. Appends old new l) none app) same)
    (λ c. let part = stop_first old new lines more (length lines, subst (λ l. Appends old new l) (sym (take_all lines)) app) in
    Midway is (lines ++ more) c part.0 part.1 same) from
stop_answers cause cut old new before now status result lines more why from (Part is n app rose) =
    let part = stop_first old new lines more (n, app) in
    Caused (answer status (lines ++ more)) why (Part is part.0 part.1 rose)
