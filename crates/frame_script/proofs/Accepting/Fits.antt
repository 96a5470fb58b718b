-- What it is that a statement fits, and the parts that several statements share.
use Rattle.std.proofs.Common.{◌≡◌, ℕ, ◌+◌, ◌≤◌, true, nat_le, nat_eq, ℤ, List, [], ◌∷◌, ◌++◌, length, map, Option, None, Some, slice_get, refl, sym, ◌∙◌, ap, length-append, append_assoc}
use Rattle.std.proofs.lemmas.Bool.{and_parts}
use Rattle.std.proofs.lemmas.List.{length-map}
use Rattle.frame_ast.specs.declared.kernel.Kernel.{Kernel}
use Rattle.frame_ast.specs.declared.script.Order.{Order}
use Rattle.frame_ast.specs.Accepted.{order_fits, made_after, literal_fits, has_length}
use Rattle.frame_ast.specs.Orders.{made_by}
use Rattle.script_text.specs.declared.raw.RawNumber.{RawNumber}
use Rattle.script_text.specs.declared.source.Source.{Source}
use Rattle.script_text.specs.Sources.{number_at, signed_at}
use Rattle.script_names.specs.Names.{Name}
use Rattle.script_checks.specs.Faults.{limit_fault, count_fault}
use Rattle.script_checks.specs.Spelling.{literal_of}
use Rattle.script_checks.proofs.NumberLemmas.{holds_from}
use Rattle.frame_script.proofs.Accepting.Places.{get_behind}
use Rattle.frame_script.proofs.Accepting.Names.{scene}

-- a statement fits, and behind it no fewer names are made than are known
abbrev pub Fits : (all : List Name) (made : ℕ) → List (List ℤ) → List Kernel → (rest inside : ℕ) → (after : List Name) → Order → Type 0
Fits all made literals kernels rest inside after o =
    (order_fits (scene all made) literals kernels rest inside o ≡ true) × (length after ≤ made_after made (made_by o))

-- a number within its limits
pub limits : (s : Source) (least most at : ℕ) → limit_fault s least most at ≡ None
    → (nat_le least (number_at s at) ≡ true) × (nat_le (number_at s at) most ≡ true)
limits s least most at h = and_parts _ _ (holds_from _ _ _ h)

-- LITERALS

-- these lists of values stand among all, behind so many
pub record Stands (all : List (List ℤ)) (place : ℕ) (here : List (List ℤ)) : Type 0 where
  pub before : List (List ℤ)
  pub after : List (List ℤ)
  pub are : all ≡ before ++ (here ++ after)
  pub many : length before ≡ place

pub stands_first : (all : List (List ℤ)) (place : ℕ) (xs ys : List (List ℤ)) → Stands all place (xs ++ ys) → Stands all place xs
stands_first all place xs ys s = record {
  before = s.before;
  after = ys ++ s.after;
  are = s.are ∙ ap (λ l. s.before ++ l) (append_assoc xs ys s.after);
  many = s.many;
}

pub stands_behind : (all : List (List ℤ)) (place : ℕ) (xs ys : List (List ℤ)) → Stands all place (xs ++ ys) → Stands all (place + length xs) ys
stands_behind all place xs ys s = record {
  before = s.before ++ xs;
  after = s.after;
  are = s.are ∙ (ap (λ l. s.before ++ l) (append_assoc xs ys s.after) ∙ sym (append_assoc s.before xs (ys ++ s.after)));
  many = length-append s.before xs ∙ ap (λ n. n + length xs) s.many;
}

pub stands_at : (all : List (List ℤ)) (place : ℕ) (x : List ℤ) → Stands all place (x ∷ []) → slice_get all place ≡ Some x
stands_at all place x s = ap (λ l. slice_get l place) s.are ∙ (ap (slice_get (s.before ++ x ∷ s.after)) (sym s.many) ∙ get_behind s.before s.after x)

-- the lists of values of an array
abbrev pub lists_of : Source → Option (List RawNumber) → List (List ℤ)
lists_of s None = []
lists_of s (Some values) = map (signed_at s) values ∷ []

-- the values of an array without a fault fit its length
pub literal_stands : (s : Source) (all : List (List ℤ)) (place len : ℕ) (values : Option (List RawNumber)) → Stands all place (lists_of s values)
    → count_fault s len values ≡ None →
    literal_fits all (number_at s len) (literal_of place values) ≡ true
literal_stands s all place len None stands h = refl
literal_stands s all place len (Some values) stands h =
    ap (has_length (number_at s len)) (stands_at all place (map (signed_at s) values) stands)
    ∙ (ap (λ n. nat_eq n (number_at s len)) (length-map values (signed_at s)) ∙ holds_from _ _ _ h)
