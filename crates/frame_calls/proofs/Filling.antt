-- What a run comes to whose text goes into a buffer.
use Rattle.std.proofs.Common.{◌≡◌, ◌⊎◌, inl, inr, ap, ◌∙◌, ℕ, [], ◌∷◌, ◌++◌, drop, Some}
use Rattle.std.specs.Io.KnownBytes.{Appends}
use Rattle.job_base.specs.Faults.{Rose}
use Rattle.command_words.specs.Words.{Text}
use Rattle.frame_top.specs.Refusals.{Answer}
use Rattle.frame_top.specs.Answers.{Hindered, NotRead, NotTaken, NotFound}
use Rattle.frame_calls.specs.Calls.{Comes}

-- What a sink took begins with a name and a room. With no text before, its text is now the answer's.
pub comes : (name name' room room' : ℕ) (old new : Text) (before now status : ℕ) (a : Answer) → old ≡ []
    → (status ≡ a.status) × Appends (Some (name ∷ room ∷ old)) (Some (name' ∷ room' ∷ new)) a.text ⊎ Hindered ⊥ (Rose before now) status
    → Comes status new a
comes name name' room room' old new before now status a empty (inl (is, app)) =
    inl (is, ap (drop 2) app ∙ ap (λ xs. xs ++ a.text) empty)
comes name name' room room' old new before now status a empty (inr (NotRead is none)) = absurd none
comes name name' room room' old new before now status a empty (inr (NotTaken is rose)) = inr (inl is)
comes name name' room room' old new before now status a empty (inr (NotFound is)) = inr (inr is)
