-- Each operation on contents keeps their form, and leaves what can be held.
use Rattle.std.proofs.Common.{◌≡◌, refl, sym, ap, ◌∙◌, subst, ℕ, zero, suc, ◌+◌, ◌*◌, ◌-◌, ◌<◌, ◌≤◌, Bool, true, false, IsTrue, T, cond, ℤ, pos, List, [], ◌∷◌, length, get_or, set, take, replicate, Option, None, Some, Result, Ok, Err, arith}
use Rattle.std.specs.Prelude.{not, nat_lt, is_some, IfOk, if◌then◌else◌}
use Rattle.std.specs.Ordering.{int_cmp, int_eq}
use Rattle.std.specs.FinMap.Entries.{where_key, is_sorted, is_sorted-put, is_sorted-where_key, length-put}
use Rattle.std.proofs.lemmas.Cmp.{int_cmp_total}
use Rattle.std.proofs.lemmas.Bool.{ltb-true}
use Rattle.std.proofs.lemmas.List.{length-set, length-take, length_push, length-replicate}
use Rattle.job_base.specs.declared.Trap.{Trap}
use Rattle.job_base.specs.declared.Trap.TheVariants.{OwnIndex, Full, PresentKey, MissingKey, Written}
use Rattle.frame_ast.specs.Contents.{Contents, Cells, Single, Items, Pairs, Entries, FitsRoom, FitRoom, IsHeld, then_value, place_in, with_single, set_at, add_item, swap_back, has_key, with_key, without_key, put_key, add_key, remove_key, items_of, begin_index, write_index, cleared, words_of}
use Rattle.frame_ast.specs.Arguments.{owns, if_owned, put_in, on_items, on_pairs, without, begin_in, write_place}
use Rattle.frame_ast.specs.Orders.{remove_in}
use Rattle.frame_ast.specs.Forms.{form_of, IsKept}

-- RESULTS

pub then_ok : {A B : Type 0} (P : A → Type 0) (Q : B → Type 0) (r : Result A Trap) (f : A → Result B Trap) → IfOk r P → ((x : A) → P x → IfOk (f x) Q)
    → IfOk (then_value r f) Q
then_ok P Q (Ok x) f h go = go x h
then_ok P Q (Err t) f h go = tt

-- whatever the first value is
then_any : {A B : Type 0} (Q : B → Type 0) (r : Result A Trap) (f : A → Result B Trap) → ((x : A) → IfOk (f x) Q) → IfOk (then_value r f) Q
then_any Q (Ok x) f go = go x
then_any Q (Err t) f go = tt

-- a choice between a value and a trap, and another choice
value_if : {A : Type 0} (P : A → Type 0) (b : Bool) (x : A) (t : Trap) → (b ≡ true → P x) → IfOk (if b then Ok x else Err t) P
value_if P true x t h = h refl
value_if P false x t h = tt

trap_if : {A : Type 0} (P : A → Type 0) (b : Bool) (r : Result A Trap) (t : Trap) → (b ≡ false → IfOk r P) → IfOk (if b then Err t else r) P
trap_if P true r t h = tt
trap_if P false r t h = h refl

choice : {A : Type 0} (P : A → Type 0) (b : Bool) (q r : Result A Trap) → (b ≡ true → IfOk q P) → (b ≡ false → IfOk r P) → IfOk (if b then q else r) P
choice P true q r h k = h refl
choice P false q r h k = k refl

owned_ok : {A : Type 0} (P : A → Type 0) (width index : ℕ) (i : ℤ) (r : Result A Trap) → IfOk r P → IfOk (if_owned width index i r) P
owned_ok P width index i r h = then_ok P P r _ h (λ a p. value_if P (owns width index i) a OwnIndex (λ own. p))

-- ELEMENTS, ITEMS, PAIRS AND ENTRIES

pub set_at_length : (xs : List ℤ) (i v : ℤ) → IfOk (set_at xs i v) (λ ys. length ys ≡ length xs)
set_at_length xs i v = then_any (λ ys. length ys ≡ length xs) (place_in (length xs) i) _ (λ k. length-set xs k v)

add_item_length : (cap : ℕ) (xs : List ℤ) (v : ℤ) → IfOk (add_item cap xs v) (λ ys. length ys ≤ cap)
add_item_length cap xs v = value_if (λ ys. length ys ≤ cap) (nat_lt (length xs) cap) _ Full
    (λ h. let less = ltb-true (length xs) cap h in let more = length_push xs v in omega arith)

swap_back_length : (cap : ℕ) (xs : List ℤ) (i : ℤ) → length xs ≤ cap → IfOk (swap_back xs i) (λ ys. length ys ≤ cap)
swap_back_length cap xs i fits =
    then_any (λ ys. length ys ≤ cap) (place_in (length xs) i) _ (λ k.
    let changed = set xs k (get_or xs (length xs - 1) (pos 0)) in
    let same : length changed ≡ length xs = length-set xs k _ in
    let shorter : length (take (length xs - 1) changed) ≤ length changed = omega (arith, length-take (length xs - 1) changed) in
    omega arith)

-- what the pairs of a map are
abbrev AreHeldPairs : ℕ → List (ℤ × ℤ) → Type 0
AreHeldPairs cap ps = (length ps ≤ cap) × IsTrue (is_sorted int_cmp ps)

is_T : (b : Bool) → b ≡ true → T b
is_T true h = tt
is_T false h = subst T (sym h) tt

from_T : (b : Bool) → T b → b ≡ true
from_T true h = refl
from_T false h = absurd h

with_key_held : (cap : ℕ) (ps : List (ℤ × ℤ)) (k v : ℤ) → AreHeldPairs cap ps → (has_key ps k ≡ false → length ps < cap) → AreHeldPairs cap (with_key ps k v)
with_key_held cap ps k v held room =
    let sorted = is_T (is_sorted int_cmp ps) held.1 in
    let now = length-put int_cmp int_cmp_total k v ps sorted in (
      elim (has_key ps k) as (λ b. (has_key ps k ≡ b) → length (with_key ps k v) ≡ cond b (length ps) (length ps + 1) → length (with_key ps k v) ≤ cap) [
        | true ↦ λ h e. let fits = held.0 in omega arith
        | false ↦ λ h e. let fits = room h in omega arith
      ] refl now,
      from_T _ (is_sorted-put int_cmp int_cmp_total k v ps sorted),
    )

put_key_held : (cap : ℕ) (ps : List (ℤ × ℤ)) (k v : ℤ) → AreHeldPairs cap ps → IfOk (put_key cap ps k v) (AreHeldPairs cap)
put_key_held cap ps k v held =
    choice (AreHeldPairs cap) (has_key ps k) _ _
    (λ there. with_key_held cap ps k v held (λ absent. absurd cc))
    (λ absent. value_if (AreHeldPairs cap) (nat_lt (length ps) cap) _ Full (λ h. with_key_held cap ps k v held (λ _. ltb-true (length ps) cap h)))

add_key_held : (cap : ℕ) (ps : List (ℤ × ℤ)) (k v : ℤ) → AreHeldPairs cap ps → IfOk (add_key cap ps k v) (AreHeldPairs cap)
add_key_held cap ps k v held = trap_if (AreHeldPairs cap) (has_key ps k) _ PresentKey (λ absent. put_key_held cap ps k v held)

shorter : (p : ℤ → Bool) (ps : List (ℤ × ℤ)) → length (where_key int_cmp p ps) ≤ length ps
shorter p [] = omega arith
shorter p (e ∷ es) =
    let rest = shorter p es in
    elim (p e.0) as (λ b. length (cond b (e ∷ where_key int_cmp p es) (where_key int_cmp p es)) ≤ suc (length es)) [ true ↦ omega arith | false ↦ omega arith ]

without_key_held : (cap : ℕ) (ps : List (ℤ × ℤ)) (k : ℤ) → AreHeldPairs cap ps → AreHeldPairs cap (without_key ps k)
without_key_held cap ps k held =
    let fits = held.0 in
    let less = shorter (λ j. not (int_eq j k)) ps in
    (omega arith, from_T _ (is_sorted-where_key int_cmp (λ j. not (int_eq j k)) ps (is_T (is_sorted int_cmp ps) held.1)))

remove_key_held : (cap : ℕ) (ps : List (ℤ × ℤ)) (k : ℤ) → AreHeldPairs cap ps → IfOk (remove_key ps k) (AreHeldPairs cap)
remove_key_held cap ps k held = value_if (AreHeldPairs cap) (has_key ps k) _ MissingKey (λ there. without_key_held cap ps k held)

-- as many entries, each within the room
abbrev AreEntries : ℕ → List (Option (List ℤ)) → List (Option (List ℤ)) → Type 0
AreEntries room es fs = (length fs ≡ length es) × FitRoom room fs

set_room : (room : ℕ) (es : List (Option (List ℤ))) (i : ℕ) (e : Option (List ℤ)) → FitsRoom room e → FitRoom room es → FitRoom room (set es i e)
set_room room [] i e fits held = held
set_room room (f ∷ es) zero e fits held = (fits, held.1)
set_room room (f ∷ es) (suc i) e fits held = (held.0, set_room room es i e fits held.1)

pub unwritten_room : (room n : ℕ) → FitRoom room (replicate n None)
unwritten_room room zero = tt
unwritten_room room (suc n) = (tt, unwritten_room room n)

set_entries : (room : ℕ) (es : List (Option (List ℤ))) (i : ℕ) (e : Option (List ℤ)) → FitsRoom room e → FitRoom room es → AreEntries room es (set es i e)
set_entries room es i e fits held = (length-set es i e, set_room room es i e fits held)

begin_index_held : (room : ℕ) (es : List (Option (List ℤ))) (i : ℤ) → FitRoom room es → IfOk (begin_index es i) (AreEntries room es)
begin_index_held room es i held =
    then_any (AreEntries room es) (place_in (length es) i) _ (λ k.
    trap_if (AreEntries room es) (is_some (get_or es k None)) _ Written (λ unwritten. set_entries room es k (Some []) (omega arith) held))

write_index_held : (room : ℕ) (es : List (Option (List ℤ))) (i : ℕ) (v : ℤ) → FitRoom room es → IfOk (write_index room es i v) (AreEntries room es)
write_index_held room es i v held =
    then_ok (λ xs. length xs ≤ room) (AreEntries room es) (add_item room (items_of (get_or es i None)) v) _
    (add_item_length room (items_of (get_or es i None)) v) (λ xs fits. set_entries room es i (Some xs) fits held)

-- CONTENTS

pub kept_cells : (xs ys : List ℤ) → length ys ≡ length xs → IsKept (Cells xs) (Cells ys)
kept_cells xs ys e = record { form = ap (λ n. Cells (replicate n (pos 0))) e; held = tt }

pub kept_items : (cap : ℕ) (xs ys : List ℤ) → length ys ≤ cap → IsKept (Items cap xs) (Items cap ys)
kept_items cap xs ys fits = record { form = refl; held = fits }

kept_pairs : (cap : ℕ) (ps qs : List (ℤ × ℤ)) → AreHeldPairs cap qs → IsKept (Pairs cap ps) (Pairs cap qs)
kept_pairs cap ps qs held = record { form = refl; held = held }

kept_entries : (room : ℕ) (es fs : List (Option (List ℤ))) → AreEntries room es fs → IsKept (Entries room es) (Entries room fs)
kept_entries room es fs are = record { form = ap (λ n. Entries room (replicate n None)) are.0; held = are.1 }

pub same_kept : (c : Contents) → IsHeld c → IsKept c c
same_kept c held = record { form = refl; held = held }

pub then_kept : (a b c : Contents) → IsKept a b → IsKept b c → IsKept a c
then_kept a b c p q = record { form = q.form ∙ p.form; held = q.held }

-- a change of a container that keeps it, where it is no trap
abbrev pub Keeps : Contents → Result Contents Trap → Type 0
Keeps c r = IfOk r (IsKept c)

pub put_kept : (width index : ℕ) (i v : ℤ) (c : Contents) → IsHeld c → Keeps c (put_in width index i v c)
put_kept width index i v (Cells xs) held =
    owned_ok (IsKept (Cells xs)) width index i _ (then_ok _ (IsKept (Cells xs)) (set_at xs i v) _ (set_at_length xs i v) (λ ys e. kept_cells xs ys e))
put_kept width index i v (Single z) held = tt
put_kept width index i v (Items cap xs) held =
    then_ok (λ ys. length ys ≡ length xs) (IsKept (Items cap xs)) (set_at xs i v) _ (set_at_length xs i v) (λ ys e. kept_items cap xs ys (omega arith))
put_kept width index i v (Pairs cap ps) held =
    then_ok (AreHeldPairs cap) (IsKept (Pairs cap ps)) (put_key cap ps i v) _ (put_key_held cap ps i v held) (λ qs h. kept_pairs cap ps qs h)
put_kept width index i v (Entries room es) held = tt

pub items_kept : (f : ℕ → List ℤ → Result (List ℤ) Trap) → ((cap : ℕ) (xs : List ℤ) → length xs ≤ cap → IfOk (f cap xs) (λ ys. length ys ≤ cap))
    → (c : Contents) → IsHeld c → Keeps c (on_items f c)
items_kept f fits (Cells xs) held = tt
items_kept f fits (Single z) held = tt
items_kept f fits (Items cap xs) held = then_ok (λ ys. length ys ≤ cap) (IsKept (Items cap xs)) (f cap xs) _ (fits cap xs held) (λ ys h. kept_items cap xs ys h)
items_kept f fits (Pairs cap ps) held = tt
items_kept f fits (Entries room es) held = tt

pub pairs_kept : (f : ℕ → List (ℤ × ℤ) → Result (List (ℤ × ℤ)) Trap) → ((cap : ℕ) (ps : List (ℤ × ℤ)) → AreHeldPairs cap ps
    → IfOk (f cap ps) (AreHeldPairs cap)) → (c : Contents) → IsHeld c → Keeps c (on_pairs f c)
pairs_kept f fits (Cells xs) held = tt
pairs_kept f fits (Single z) held = tt
pairs_kept f fits (Items cap xs) held = tt
pairs_kept f fits (Pairs cap ps) held = then_ok (AreHeldPairs cap) (IsKept (Pairs cap ps)) (f cap ps) _ (fits cap ps held) (λ qs h. kept_pairs cap ps qs h)
pairs_kept f fits (Entries room es) held = tt

pub add_kept : (v : ℤ) (c : Contents) → IsHeld c → Keeps c (on_items (λ cap xs. add_item cap xs v) c)
add_kept v = items_kept _ (λ cap xs held. add_item_length cap xs v)

pub remove_at_kept : (i : ℤ) (c : Contents) → IsHeld c → Keeps c (on_items (λ cap xs. swap_back xs i) c)
remove_at_kept i = items_kept _ (λ cap xs held. swap_back_length cap xs i held)

pub add_pair_kept : (k v : ℤ) (c : Contents) → IsHeld c → Keeps c (on_pairs (λ cap ps. add_key cap ps k v) c)
add_pair_kept k v = pairs_kept _ (λ cap ps held. add_key_held cap ps k v held)

pub put_pair_kept : (k v : ℤ) (c : Contents) → IsHeld c → Keeps c (on_pairs (λ cap ps. put_key cap ps k v) c)
put_pair_kept k v = pairs_kept _ (λ cap ps held. put_key_held cap ps k v held)

pub without_kept : (k : ℤ) (c : Contents) → IsHeld c → IsKept c (without k c)
without_kept k (Cells xs) held = same_kept (Cells xs) held
without_kept k (Single z) held = same_kept (Single z) held
without_kept k (Items cap xs) held = same_kept (Items cap xs) held
without_kept k (Pairs cap ps) held = kept_pairs cap ps _ (without_key_held cap ps k held)
without_kept k (Entries room es) held = same_kept (Entries room es) held

pub cleared_kept : (c : Contents) → IsHeld c → IsKept c (cleared c)
cleared_kept (Cells xs) held = same_kept (Cells xs) held
cleared_kept (Single z) held = same_kept (Single z) held
cleared_kept (Items cap xs) held = kept_items cap xs [] (omega arith)
cleared_kept (Pairs cap ps) held = kept_pairs cap ps [] (omega arith, refl)
cleared_kept (Entries room es) held = kept_entries room es _ (length-replicate (length es) None, unwritten_room room (length es))

pub single_kept : (v : ℤ) (c : Contents) → IsHeld c → IsKept c (with_single v c)
single_kept v (Cells xs) held = same_kept (Cells xs) held
single_kept v (Single z) held = record { form = refl; held = tt }
single_kept v (Items cap xs) held = same_kept (Items cap xs) held
single_kept v (Pairs cap ps) held = same_kept (Pairs cap ps) held
single_kept v (Entries room es) held = same_kept (Entries room es) held

pub begin_kept : (width index : ℕ) (i : ℤ) (c : Contents) → IsHeld c → Keeps c (begin_in width index i c)
begin_kept width index i (Cells xs) held = tt
begin_kept width index i (Single z) held = tt
begin_kept width index i (Items cap xs) held = tt
begin_kept width index i (Pairs cap ps) held = tt
begin_kept width index i (Entries room es) held =
    then_any (IsKept (Entries room es)) (if_owned width index i (place_in (length es) i)) _ (λ k.
    then_ok (AreEntries room es) (IsKept (Entries room es)) (begin_index es i) _ (begin_index_held room es i held) (λ fs h. kept_entries room es fs h))

pub write_kept : (i v : ℤ) (c : Contents) → IsHeld c → Keeps c (write_place i c v)
write_kept i v (Cells xs) held = tt
write_kept i v (Single z) held = tt
write_kept i v (Items cap xs) held = tt
write_kept i v (Pairs cap ps) held = tt
write_kept i v (Entries room es) held =
    then_any (IsKept (Entries room es)) (place_in (length es) i) _ (λ k.
    then_ok (AreEntries room es) (IsKept (Entries room es)) (write_index room es k v) _ (write_index_held room es k v held) (λ fs h. kept_entries room es fs h))

pub remove_kept : (at : ℤ) (c : Contents) → IsHeld c → Keeps c (remove_in c at)
remove_kept at (Cells xs) held = tt
remove_kept at (Single z) held = tt
remove_kept at (Items cap xs) held = then_ok (λ ys. length ys ≤ cap) (IsKept (Items cap xs)) (swap_back xs at) _ (swap_back_length cap xs at held)
    (λ ys h. kept_items cap xs ys h)
remove_kept at (Pairs cap ps) held = then_ok (AreHeldPairs cap) (IsKept (Pairs cap ps)) (remove_key ps at) _ (remove_key_held cap ps at held)
    (λ qs h. kept_pairs cap ps qs h)
remove_kept at (Entries room es) held = tt

-- The words of a container follow from its form.
pub words_by_form : (c : Contents) → words_of (form_of c) ≡ words_of c
words_by_form (Cells xs) = length-replicate (length xs) (pos 0)
words_by_form (Single z) = refl
words_by_form (Items cap xs) = refl
words_by_form (Pairs cap ps) = refl
words_by_form (Entries room es) = ap (λ n. n * (room + 1)) (length-replicate (length es) None)
