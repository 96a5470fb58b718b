-- Words on lists that std doesn't have.
use Rattle.std.specs.Prelude.{ℕ, Bool, true, false, ◌&&◌, nat_eq, List, [], ◌∷◌, Option, None, Some}
use Rattle.std.specs.List.{list_any}

abbrev pub member : ℕ → List ℕ → Bool
member n xs = list_any (nat_eq n) xs

abbrev pub all_true : List Bool → Bool
all_true [] = true
all_true (b ∷ more) = b && all_true more

-- the first of these that is there
unfoldable pub first_some : {A : Type 0} → List (Option A) → Option A
first_some [] = None
first_some (None ∷ more) = first_some more
first_some (Some x ∷ more) = Some x

-- this, where that holds
abbrev pub some_if : {A : Type 0} → Bool → A → Option A
some_if true x = Some x
some_if false x = None
