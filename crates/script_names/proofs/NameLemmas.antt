-- A name that is added to those known.
use Rattle.std.proofs.Common.{◌≡◌, ℕ, ◌+◌, ◌≤◌, Bool, true, false, cond, nat_lt, nat_eq, List, [], ◌∷◌, ◌++◌, length, Option, Some, None, refl, sym, ◌∙◌, subst, arith, length-append, Result, Ok, Err, OnOk, is_err}
use Rattle.std.specs.Map.{update}
use Rattle.std.specs.Str.{bytes_eq}
use Rattle.std.specs.List.{position_or_len}
use Rattle.std.proofs.lemmas.Bool.Decides.{nat_tests, same_from_decides}
use Rattle.std.proofs.lemmas.Slice.Eq.{bytes_eq-Decides}
use Rattle.std.proofs.lemmas.List.Folds.{position_or_len_push}
use Rattle.std.proofs.lemmas.List.Sums.{prefix_len-le-length}
use Rattle.frame_ast.specs.declared.name_kind.NameKind.{NameKind}
use Rattle.script_names.specs.Names.{Name, place_in, is_called}

-- the place of what a test holds of, among a list's elements and one more
pub at_push : (b : Bool) (n len : ℕ) → n ≤ len →
    cond (nat_lt (cond (nat_eq n len) (len + cond b 0 1) n) (len + 1)) (Some (cond (nat_eq n len) (len + cond b 0 1) n)) None
    ≡ cond (nat_lt n len) (Some n) (cond b (Some len) None)
at_push true n len h = grind (arith, nat_tests)
at_push false n len h = grind (arith, nat_tests)

pub bytes_eq-swap : (xs ys : List ℕ) → bytes_eq xs ys ≡ bytes_eq ys xs
bytes_eq-swap xs ys =
    let d = bytes_eq-Decides ys xs in
    same_from_decides {P = xs ≡ ys} _ _ (bytes_eq-Decides xs ys) ((λ h. sym (d.0 h)), (λ h. d.1 (sym h)))

pub missing : (n len : ℕ) → cond (nat_lt n len) (Some n) None ≡ None → nat_lt n len ≡ false
missing n len h = grind (arith, nat_tests)

chosen : (names : List Name) (text q : List ℕ) → place_in names text ≡ None → (b : Bool) → bytes_eq text q ≡ b → (w : Option ℕ) →
    cond (nat_lt (position_or_len (is_called q) names) (length names)) (Some (position_or_len (is_called q) names)) (cond b w None)
    ≡ cond b w (place_in names q)
chosen names text q none true same w =
    let e : text ≡ q = (bytes_eq-Decides text q).0 same in
    let gone = missing _ _ (subst (λ t. place_in names t ≡ None) e none) in
    rw gone
chosen names text q none false same w = refl

-- the place of a name after a new one is added
pub place_in-push : (names : List Name) (text : List ℕ) (kind : NameKind) → place_in names text ≡ None → (q : List ℕ) →
    place_in (names ++ record { text = text; kind = kind } ∷ []) q ≡ update bytes_eq (place_in names) text (Some (length names)) q
place_in-push names text kind none q =
    let new : Name = record { text = text; kind = kind } in
    rw (position_or_len_push (is_called q) names new, length-append names (new ∷ []))
    (at_push (bytes_eq q text) (position_or_len (is_called q) names) (length names) (prefix_len-le-length _ names)
    ∙ (rw (bytes_eq-swap q text) (chosen names text q none (bytes_eq text q) refl (Some (length names)))))

pub on_ok : {T E : Type 0} (r : Result T E) (P : Type 0) → is_err r ≡ false → OnOk r P → P
on_ok (Ok x) P h p = p
on_ok (Err e) P h p = cc

pub both : (b : Bool) (n m : ℕ) (x y : Option ℕ) → n ≡ m → x ≡ y → cond b (Some n) x ≡ cond b (Some m) y
both b n m x y e f = cc
