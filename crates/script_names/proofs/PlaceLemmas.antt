-- The places of known names, and what the names stand for.
use Rattle.std.proofs.Common.{◌≡◌, ℕ, ◌<◌, ◌≤◌, Bool, true, false, cond, nat_lt, List, [], ◌∷◌, ◌++◌, length, map, get_or, Option, Some, None, is_some, refl, sym, ◌∙◌, ap, subst, arith}
use Rattle.std.specs.Option.{option_map}
use Rattle.std.specs.List.{slice_get}
use Rattle.std.specs.Str.{bytes_eq}
use Rattle.std.proofs.lemmas.Bool.Decides.{nat_tests}
use Rattle.std.proofs.lemmas.Slice.Eq.{bytes_eq-Decides}
use Rattle.std.proofs.lemmas.List.{length-map}
use Rattle.std.proofs.lemmas.List.Folds.{find_at}
use Rattle.std.proofs.lemmas.Option.{slice_get-map, slice_get-get_or, slice_get_past}
use Rattle.script_names.specs.declared.names.Entry.{Entry}
use Rattle.frame_ast.specs.declared.name_kind.NameKind.{NameKind}
use Rattle.script_names.specs.Names.{Name, place_in, kind_in, with_name, is_called}
use Rattle.script_names.specs.Index.{known_of}
use Rattle.script_names.proofs.NameLemmas.{place_in-push}

position_is : (n len k : ℕ) → cond (nat_lt n len) (Some n) None ≡ Some k → (n ≡ k) × (n < len)
position_is n len k h = grind (arith, nat_tests)

position_past : (n len : ℕ) → cond (nat_lt n len) (Some n) None ≡ None → len ≤ n
position_past n len h = grind (arith, nat_tests)

pub place_within : (names : List Name) (text : List ℕ) (place : ℕ) → place_in names text ≡ Some place → place < length names
place_within names text place h = let p = position_is _ _ place h in subst (λ k. k < length names) p.0 p.1

-- what a name at a place stands for
pub kind_found : (entries : List Entry) (text : List ℕ) (place : ℕ) (e : Entry) → place_in (map known_of entries) text ≡ Some place →
    e ≡ get_or entries place e → kind_in (map known_of entries) text ≡ Some e.kind
kind_found entries text place e h is =
    let p = position_is _ _ place h in
    let within : place < length entries = subst (λ k. place < k) (length-map entries known_of) (place_within (map known_of entries) text place h) in
    let found : slice_get entries place ≡ Some e = slice_get-get_or entries place e within ∙ ap (λ x. Some x) (sym is) in
    ap (option_map (λ n. n.kind)) (find_at (is_called text) (map known_of entries)
    ∙ (ap (slice_get (map known_of entries)) p.0 ∙ (slice_get-map known_of entries place ∙ ap (option_map known_of) found)))

pub kind_missing : (names : List Name) (text : List ℕ) → place_in names text ≡ None → kind_in names text ≡ None
kind_missing names text h =
    ap (option_map (λ n. n.kind)) (find_at (is_called text) names ∙ slice_get_past names _ (position_past _ _ h))

-- a known name keeps its place
some_not : (o : Option ℕ) (k : ℕ) → o ≡ Some k → is_some o ≡ false → ⊥
some_not None k h e = cc
some_not (Some n) k h e = cc

kept : (names : List Name) (made text : List ℕ) (place : ℕ) → place_in names made ≡ None → place_in names text ≡ Some place → (b : Bool)
    → bytes_eq made text ≡ b →
    cond b (Some (length names)) (place_in names text) ≡ Some place
kept names made text place none h true same =
    let e : made ≡ text = (bytes_eq-Decides made text).0 same in
    absurd (some_not _ place h (ap is_some (subst (λ t. place_in names t ≡ None) e none)))
kept names made text place none h false same = h

made_or_not : (names : List Name) (made text : List ℕ) (kind : NameKind) (place : ℕ) → place_in names text ≡ Some place → (o : Option ℕ)
    → place_in names made ≡ o →
    place_in (cond (is_some o) names (names ++ record { text = made; kind = kind } ∷ [])) text ≡ Some place
made_or_not names made text kind place h (Some n) is = h
made_or_not names made text kind place h None is =
    place_in-push names made kind is text ∙ kept names made text place is h (bytes_eq made text) refl

pub place_kept : (names : List Name) (made text : List ℕ) (kind : NameKind) (place : ℕ) → place_in names text ≡ Some place →
    place_in (with_name names made kind) text ≡ Some place
place_kept names made text kind place h = made_or_not names made text kind place h (place_in names made) refl

-- the place of a name that is made
pub new_place : (names : List Name) (text : List ℕ) (kind : NameKind) → place_in names text ≡ None
    → place_in (with_name names text kind) text ≡ Some (length names)
new_place names text kind none =
    let known : is_some (place_in names text) ≡ false = ap is_some none in
    rw known (place_in-push names text kind none text ∙ (rw ((bytes_eq-Decides text text).1 refl)))

-- a known name is not made again
pub known_already : (names : List Name) (text : List ℕ) (kind : NameKind) (place : ℕ) → place_in names text ≡ Some place
    → names ≡ with_name names text kind
known_already names text kind place found = ap (λ b. cond b names (names ++ record { text = text; kind = kind } ∷ [])) (sym (ap is_some found))
