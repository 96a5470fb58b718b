-- The values that events say, read as signed numbers one after another.
use Rattle.std.proofs.Common.{◌≡◌, ℕ, ◌+◌, List, [], ◌∷◌, ◌++◌, map, drop, None, refl, sym, ◌∙◌, ap, subst, append_assoc, ℤ}
use Rattle.std.proofs.lemmas.List.{append-nil}
use Rattle.frame_ast.specs.Lists.{first_some}
use Rattle.frame_grammar.specs.declared.symbols.Action.{Action}
use Rattle.frame_grammar.specs.declared.symbols.Action.TheVariants as action
use Rattle.frame_grammar.specs.declared.symbols.Event.{Event}
use Rattle.script_text.specs.declared.raw.RawNumber.{RawNumber}
use Rattle.script_text.specs.declared.source.Source.{Source}
use Rattle.script_checks.specs.declared.fault.OrderFault.{OrderFault}
use Rattle.script_text.specs.Raw.{number_after, signed_by, signed_from}
use Rattle.script_text.specs.Sources.{signed_at}
use Rattle.script_checks.specs.Faults.{signed_fault}
use Rattle.script_checks.specs.Checks.{Refuses}
use Rattle.script_checks.proofs.FaultLemmas.{first_next, first_end, refuses_here}

-- Of all values these are left, those before them have no fault, and are kept.
pub record Kept (s : Source) (all left : List RawNumber) (values : List ℤ) : Type 0 where
  pub passed : first_some (map (signed_fault s) all) ≡ first_some (map (signed_fault s) left)
  pub kept : values ++ map (signed_at s) left ≡ map (signed_at s) all

pub kept_first : (s : Source) (all : List RawNumber) (values : List ℤ) → values ≡ [] → Kept s all all values
kept_first s all values empty = record { passed = refl; kept = ap (λ x. x ++ map (signed_at s) all) empty }

-- past an event that says none
pub kept_on : (s : Source) (all left more : List RawNumber) (values : List ℤ) → left ≡ more → Kept s all left values → Kept s all more values
kept_on s all left more values is k = subst (λ x. Kept s all x values) is k

-- past one that says one
pub kept_more : (s : Source) (all left more : List RawNumber) (n : RawNumber) (values values' : List ℤ) (z : ℤ) → left ≡ n ∷ more → signed_fault s n ≡ None →
    values' ≡ values ++ z ∷ [] → z ≡ signed_at s n → Kept s all left values → Kept s all more values'
kept_more s all left more n values values' z is sound pushed said k =
    let g = signed_at s in
    record {
      passed = k.passed ∙ ap (λ x. first_some (map (signed_fault s) x)) is ∙ first_next (signed_fault s n) (map (signed_fault s) more) sound;
      kept = ap (λ x. x ++ map g more) pushed ∙ append_assoc values (z ∷ []) (map g more) ∙ ap (λ y. values ++ y ∷ map g more) said
          ∙ ap (λ x. values ++ map g x) (sym is) ∙ k.kept;
    }

-- at one with a fault
pub stopped_at : (s : Source) (all left more : List RawNumber) (n : RawNumber) (values : List ℤ) (e : OrderFault) → left ≡ n ∷ more
    → Refuses (signed_fault s n) e → Kept s all left values →
    Refuses (first_some (map (signed_fault s) all)) e
stopped_at s all left more n values e is fault k =
    subst (λ o. Refuses o e) (sym (k.passed ∙ ap (λ x. first_some (map (signed_fault s) x)) is))
    (refuses_here (signed_fault s n) (map (signed_fault s) more) e fault)

-- all are kept
pub kept_all : (s : Source) (all left : List RawNumber) (values : List ℤ) → left ≡ [] → Kept s all left values
    → (first_some (map (signed_fault s) all) ≡ None) × (values ≡ map (signed_at s) all)
kept_all s all left values empty k = (
  k.passed ∙ ap (λ x. first_some (map (signed_fault s) x)) empty ∙ first_end,
  sym (append-nil values) ∙ ap (λ x. values ++ map (signed_at s) x) (sym empty) ∙ k.kept,
)

-- what an event leaves of the values, by its action

pub left_at : (all : List Event) (i at : ℕ) (e : Event) → drop i all ≡ e ∷ drop (i + 1) all →
    signed_from at (drop i all) ≡ signed_by e.action at ++ signed_from (number_after e.action e.place at) (drop (i + 1) all)
left_at all i at e next = ap (signed_from at) next

pub left_after : (all : List Event) (i at : ℕ) (e : Event) (a : Action) → drop i all ≡ e ∷ drop (i + 1) all → e.action ≡ a →
    signed_from at (drop i all) ≡ signed_by a at ++ signed_from (number_after a e.place at) (drop (i + 1) all)
left_after all i at e a next is = left_at all i at e next ∙ ap (λ x. signed_by x at ++ signed_from (number_after x e.place at) (drop (i + 1) all)) is

says_none : (a : Action) (at : ℕ) → (a ≡ action.PlainNumber → ⊥) → (a ≡ action.MinusNumber → ⊥) → signed_by a at ≡ []
says_none action.PlainNumber at not-plain not-minus = absurd (not-plain refl)
says_none action.MinusNumber at not-plain not-minus = absurd (not-minus refl)
says_none _ at not-plain not-minus = refl

same_number : (a : Action) (q at : ℕ) → (a ≡ action.Number → ⊥) → number_after a q at ≡ at
same_number action.Number q at not-number = absurd (not-number refl)
same_number _ q at not-number = refl

pub left_alike : (all : List Event) (i at : ℕ) (e : Event) → drop i all ≡ e ∷ drop (i + 1) all → (e.action ≡ action.Number → ⊥)
    → (e.action ≡ action.PlainNumber → ⊥) → (e.action ≡ action.MinusNumber → ⊥) →
    signed_from at (drop i all) ≡ signed_from at (drop (i + 1) all)
left_alike all i at e next not-number not-plain not-minus =
    left_at all i at e next
    ∙ ap (λ x. x ++ signed_from (number_after e.action e.place at) (drop (i + 1) all)) (says_none e.action at not-plain not-minus)
    ∙ ap (λ x. signed_from x (drop (i + 1) all)) (same_number e.action e.place at not-number)
