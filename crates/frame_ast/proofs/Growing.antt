-- Containers keep their kind, and arrays their length, so what a name stands for stays of its kind.
use Rattle.std.proofs.Common.{◌≡◌, refl, sym, ap, ◌∙◌, subst, ℕ, ◌+◌, ◌<◌, ◌≤◌, ℤ, pos, List, ◌++◌, length, take, drop, arith}
use Rattle.std.proofs.lemmas.List.{length-append, length-take, length-drop, length-replicate}
use Rattle.frame_ast.specs.Contents.{Contents, Cells, Single, Items, Pairs, Entries, IsHeld, elements, with_elements}
use Rattle.frame_ast.specs.States.{Value, ScriptState, container_of, value_elements, with_value_elements}
use Rattle.frame_ast.specs.declared.name_kind.NameKind.{NameKind}
use Rattle.frame_ast.specs.declared.name_kind.NameKind.TheVariants.{Array as ArrayName}
use Rattle.frame_ast.specs.Forms.{form_of, IsKept}
use Rattle.frame_ast.specs.Kinds.{kind_of, IsOfKind}
use Rattle.frame_ast.proofs.Forms.{kept_cells, kept_items, same_kept}

-- WHAT THE FORM TELLS

kind_by_form : (c : Contents) → kind_of (form_of c) ≡ kind_of c
kind_by_form (Cells xs) = refl
kind_by_form (Single z) = refl
kind_by_form (Items cap xs) = refl
kind_by_form (Pairs cap ps) = refl
kind_by_form (Entries room es) = refl

length_by_form : (c : Contents) → kind_of c ≡ ArrayName → length (elements (form_of c)) ≡ length (elements c)
length_by_form (Cells xs) is = length-replicate (length xs) (pos 0)
length_by_form (Single z) is = refl
length_by_form (Items cap xs) is = absurd cc
length_by_form (Pairs cap ps) is = refl
length_by_form (Entries room es) is = refl

-- the same kind, and of an array the same length
pub record IsLike (old new : Contents) : Type 0 where
  pub kind : kind_of new ≡ kind_of old
  pub length : kind_of old ≡ ArrayName → length (elements new) ≡ length (elements old)

pub same_like : (c : Contents) → IsLike c c
same_like c = record { kind = refl; length = λ is. refl }

pub kept_like : (old new : Contents) → IsKept old new → IsLike old new
kept_like old new k =
    let kind : kind_of new ≡ kind_of old = sym (kind_by_form new) ∙ ap kind_of k.form ∙ kind_by_form old in
    record {
      kind = kind;
      length = λ is. sym (length_by_form new (kind ∙ is)) ∙ ap (λ c. length (elements c)) k.form ∙ length_by_form old is;
    }

-- a list with a new capacity
pub capacity_like : (cap room : ℕ) (xs : List ℤ) → IsLike (Items cap xs) (Items room xs)
capacity_like cap room xs = record { kind = refl; length = λ is. refl }

-- STATES

-- no container is gone, and each is like it was
pub record Grows (old new : ScriptState) : Type 0 where
  pub made : old.made ≤ new.made
  pub like : (c : ℕ) → c < old.made → IsLike (old.contents c) (new.contents c)

pub kind_after : (old new : ScriptState) → Grows old new → (kind : NameKind) (v : Value) → IsOfKind old kind v → IsOfKind new kind v
kind_after old new g kind Value.Dead h = tt
kind_after old new g kind (Value.Whole c) h = let more = g.made in let below = h.1 in (h.0 ∙ sym (g.like c h.1).kind, omega arith)
kind_after old new g kind (Value.Slice c start len) h =
    let more = g.made in
    let below = h.1 in
    let like = g.like c h.1 in
    (h.0, omega arith, like.kind ∙ h.2, subst (λ n. start + len ≤ n) (sym (like.length h.2)) h.3)
kind_after old new g kind (Value.View c number) h = let more = g.made in let below = h.1 in (h.0, omega arith, (g.like c h.1).kind ∙ h.2)
kind_after old new g kind (Value.Handle jobs) h = h

-- ELEMENTS OF WHAT A NAME STANDS FOR

-- whether contents of a form can have these elements
abbrev FitsForm : List ℤ → Contents → Type 0
FitsForm ys (Cells xs) = length ys ≡ length xs
FitsForm ys (Single z) = Unit {0}
FitsForm ys (Items cap xs) = length ys ≤ cap
FitsForm ys (Pairs cap ps) = Unit {0}
FitsForm ys (Entries room es) = Unit {0}

-- whether they can be put where the elements of a value were
abbrev pub FitsValue : Value → List ℤ → Contents → Type 0
FitsValue Value.Dead ys c = Unit {0}
FitsValue (Value.Whole n) ys c = FitsForm ys (form_of c)
FitsValue (Value.Slice n start len) ys c = (kind_of c ≡ ArrayName) × (start + len ≤ length (elements c)) × (length ys ≡ len)
FitsValue (Value.View n number) ys c = FitsForm ys (form_of c)
FitsValue (Value.Handle jobs) ys c = Unit {0}

same_number : (ys : List ℤ) (c : Contents) → IsHeld c → length ys ≡ length (elements c) → FitsForm ys (form_of c)
same_number ys (Cells xs) held e = e ∙ sym (length-replicate (length xs) (pos 0))
same_number ys (Single z) held e = tt
same_number ys (Items cap xs) held e = omega arith
same_number ys (Pairs cap ps) held e = tt
same_number ys (Entries room es) held e = tt

pub part_length : (xs : List ℤ) (start len : ℕ) → start + len ≤ length xs → length (take len (drop start xs)) ≡ len
part_length xs start len within = simp (length-take, length-drop) (omega arith)

-- as many elements as it had
pub same_fits : (s : ScriptState) (kind : NameKind) (v : Value) (ys : List ℤ) → IsOfKind s kind v → IsHeld (s.contents (container_of v))
    → length ys ≡ length (value_elements v (s.contents (container_of v))) → FitsValue v ys (s.contents (container_of v))
same_fits s kind Value.Dead ys h held e = tt
same_fits s kind (Value.Whole c) ys h held e = same_number ys (s.contents c) held e
same_fits s kind (Value.Slice c start len) ys h held e = (h.2, h.3, e ∙ part_length (elements (s.contents c)) start len h.3)
same_fits s kind (Value.View c number) ys h held e = same_number ys (s.contents c) held e
same_fits s kind (Value.Handle jobs) ys h held e = tt

pub fits_after : (v : Value) (ys : List ℤ) (old new : Contents) → IsKept old new → FitsValue v ys old → FitsValue v ys new
fits_after Value.Dead ys old new k h = tt
fits_after (Value.Whole n) ys old new k h = subst (FitsForm ys) (sym k.form) h
fits_after (Value.Slice n start len) ys old new k h =
    let like = kept_like old new k in
    (like.kind ∙ h.0, subst (λ m. start + len ≤ m) (sym (like.length h.0)) h.1, h.2)
fits_after (Value.View n number) ys old new k h = subst (FitsForm ys) (sym k.form) h
fits_after (Value.Handle jobs) ys old new k h = tt

all_kept : (ys : List ℤ) (c : Contents) → IsHeld c → FitsForm ys (form_of c) → IsKept c (with_elements ys c)
all_kept ys (Cells xs) held h = kept_cells xs ys (h ∙ length-replicate (length xs) (pos 0))
all_kept ys (Single z) held h = same_kept (Single z) held
all_kept ys (Items cap xs) held h = kept_items cap xs ys h
all_kept ys (Pairs cap ps) held h = same_kept (Pairs cap ps) held
all_kept ys (Entries room es) held h = same_kept (Entries room es) held

part_kept : (ys : List ℤ) (start len : ℕ) (c : Contents) → kind_of c ≡ ArrayName → start + len ≤ length (elements c) → length ys ≡ len
    → IsKept c (with_elements (take start (elements c) ++ ys ++ drop (start + len) (elements c)) c)
part_kept ys start len (Cells xs) is within e = kept_cells xs _ (simp (length-append, length-take, length-drop) (omega arith))
part_kept ys start len (Single z) is within e = absurd cc
part_kept ys start len (Items cap xs) is within e = absurd cc
part_kept ys start len (Pairs cap ps) is within e = absurd cc
part_kept ys start len (Entries room es) is within e = absurd cc

pub elements_kept : (v : Value) (ys : List ℤ) (c : Contents) → IsHeld c → FitsValue v ys c → IsKept c (with_value_elements v ys c)
elements_kept Value.Dead ys c held h = same_kept c held
elements_kept (Value.Whole n) ys c held h = all_kept ys c held h
elements_kept (Value.Slice n start len) ys c held h = part_kept ys start len c h.0 h.1 h.2
elements_kept (Value.View n number) ys c held h = all_kept ys c held h
elements_kept (Value.Handle jobs) ys c held h = same_kept c held
