-- Parts of a statement that are checked one after another.
use Rattle.std.proofs.Common.{◌≡◌, ℕ, ◌+◌, ◌<◌, ◌≤◌, List, [], ◌∷◌, ◌++◌, length, map, take, drop, get_or, Option, None, sym, ◌∙◌, ap, subst, add-one, drop-cons}
use Rattle.std.proofs.lemmas.List.{map-append, drop_all, take_all}
use Rattle.std.proofs.Math.Seq.{take-suc}
use Rattle.kernel_raw.specs.declared.fault.StaticFault.{StaticFault}
use Rattle.frame_ast.specs.Lists.{first_some}
use Rattle.script_checks.specs.declared.fault.OrderFault.{OrderFault}
use Rattle.script_checks.specs.Checks.{Refuses}
use Rattle.script_checks.proofs.FaultLemmas.{first_next, first_end, refuses_here}

front : {A : Type 0} (f : A → Option StaticFault) (xs : List A) (i : ℕ) (d : A) → i < length xs
    → map f (drop i xs) ≡ f (get_or xs i d) ∷ map f (drop (i + 1) xs)
front f xs i d h = rw (add-one i) (ap (map f) (drop-cons xs i d h))

-- the first fault of all is that of those that are left, past one without a fault
pub passed_more : {A : Type 0} (f : A → Option StaticFault) (xs : List A) (i : ℕ) (x : A) (all : Option StaticFault) → i < length xs
    → all ≡ first_some (map f (drop i xs)) →
    x ≡ get_or xs i x → f x ≡ None → all ≡ first_some (map f (drop (i + 1) xs))
passed_more f xs i x all h is here none =
    is ∙ (ap first_some (front f xs i x h) ∙ first_next (f (get_or xs i x)) (map f (drop (i + 1) xs)) (ap f (sym here) ∙ none))

pub stopped_here : {A : Type 0} (f : A → Option StaticFault) (xs : List A) (i : ℕ) (x : A) (all : Option StaticFault) (e : OrderFault) → i < length xs
    → all ≡ first_some (map f (drop i xs)) →
    x ≡ get_or xs i x → Refuses (f x) e → Refuses all e
stopped_here f xs i x all e h is here r =
    subst (λ o. Refuses o e) (sym (is ∙ ap first_some (front f xs i x h)))
    (refuses_here (f (get_or xs i x)) (map f (drop (i + 1) xs)) e (subst (λ y. Refuses (f y) e) here r))

pub all_passed : {A : Type 0} (f : A → Option StaticFault) (xs : List A) (i : ℕ) (all : Option StaticFault) → length xs ≤ i
    → all ≡ first_some (map f (drop i xs)) → all ≡ None
all_passed f xs i all h is = is ∙ (ap (λ ys. first_some (map f ys)) (drop_all i xs h) ∙ first_end)

-- one more is kept
pub kept_more : {A B : Type 0} (g : A → B) (xs : List A) (i : ℕ) (x : A) (y : B) (ys : List B) → i < length xs → ys ≡ map g (take i xs) → x ≡ get_or xs i x
    → y ≡ g x →
    ys ++ y ∷ [] ≡ map g (take (i + 1) xs)
kept_more g xs i x y ys h is here e =
    ap (λ zs. zs ++ y ∷ []) is ∙ (ap (λ z. map g (take i xs) ++ z ∷ []) (e ∙ ap g here)
    ∙ (sym (map-append g (take i xs) (get_or xs i x ∷ []))
    ∙ ap (map g) (sym (rw (add-one i) (take-suc xs i x h)))))

-- all are kept
pub all_taken : {A B : Type 0} (g : A → B) (xs : List A) (i : ℕ) (ys : List B) → length xs ≤ i → ys ≡ map g (take i xs) → ys ≡ map g xs
all_taken g xs i ys h is = is ∙ ap (map g) (take_all i xs h)
