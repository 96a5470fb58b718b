-- Lines that are left out where they are empty.
use Rattle.std.proofs.Common.{◌≡◌, ℕ, Bool, true, false, nat_eq, List, [], ◌∷◌, ◌++◌, length, map, string_bytes, String, eqb-true, refl, sym, ap, ◌∙◌, arith}
use Rattle.std.proofs.lemmas.List.{map-append}
use Rattle.std.specs.declared.alloc.Global.{Global}
use Rattle.schedule_text.specs.Boxes.{line_of}

not_both : {b : Bool} → b ≡ true → b ≡ false → ⊥
not_both p q = cc

line_some : (t : List ℕ) → nat_eq (length t) 0 ≡ false → line_of t ≡ t ∷ []
line_some [] e = absurd (not_both refl e)
line_some (c ∷ t) e = refl

line_none : (t : List ℕ) → nat_eq (length t) 0 ≡ true → line_of t ≡ []
line_none [] e = refl
line_none (c ∷ t) e = let z : length (c ∷ t) ≡ 0 = eqb-true (length (c ∷ t)) 0 e in absurd (omega arith)

append_nil : {A : Type 0} (xs : List A) → xs ++ [] ≡ xs
append_nil [] = refl
append_nil (x ∷ xs) = ap (λ ys. x ∷ ys) (append_nil xs)

-- as the code tests it
module _ (text shown : List ℕ) (b : Bool) (is : b ≡ nat_eq (length shown) 0) (same : shown ≡ text) where
  test : nat_eq (length text) 0 ≡ b
  test = sym (is ∙ ap (λ t. nat_eq (length t) 0) same)

  pub a_line : (lines : List (List ℕ)) → b ≡ false → lines ++ text ∷ [] ≡ lines ++ line_of text
  a_line lines f = ap (λ x. lines ++ x) (sym (line_some text (test ∙ f)))

  pub no_line : (lines : List (List ℕ)) → b ≡ true → lines ≡ lines ++ line_of text
  no_line lines t = sym (append_nil lines) ∙ ap (λ x. lines ++ x) (sym (line_none text (test ∙ t)))

pub pushed : (xs ys : List (String Global)) (line : String Global) → ys ≡ xs ++ line ∷ []
    → map (λ v. string_bytes v) ys ≡ map (λ v. string_bytes v) xs ++ string_bytes line ∷ []
pushed xs ys line e = ap (map (λ v. string_bytes v)) e ∙ map-append (λ v. string_bytes v) xs (line ∷ [])
