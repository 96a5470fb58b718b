use Rattle.std.proofs.Common.{◌≡◌, List, map, Option, Result, MatchResult, OnOk, rules, sym, subst, ◌∙◌, w64}
use Rattle.std.proofs.lemmas.Iterator.{YieldsList, YieldsList-from_slice, YieldsList-from_map_by}
use Rattle.std.proofs.lemmas.Iterator.Adapters.{fact_from_extend}
use Rattle.std.proofs.lemmas.List.{map-id}
use Rattle.std.specs.Int.{cast_signed}
use Rattle.std.specs.Iterator.{Yields, Drains}
use Rattle.word_board.proofs.making.add_cells.Goals as goal

-- what a chain gives whose list is known by what v reads of it
read_from_extend : {T A C E Q : Type 0} {steps : T → Option A → T → Type 0} {all : List C} {P : List A → Type 0} {s : T} (v : A → C) (r : Result (Unit {0}) E)
    → ((it : T) × (xs : List A) × (it ≡ s) × P xs × MatchResult r (λ _. Drains steps it xs) (λ _. (t : T) × Yields steps it xs t))
    → YieldsList steps v s all → ((xs : List A) → map v xs ≡ all → P xs → Q) → OnOk r Q
read_from_extend {steps = steps} {all = all} v r ran chain f = fact_from_extend v r ran (λ it b. subst (λ x. YieldsList steps v x all) (sym b) chain) f

pub returns : goal.returns
returns c = read_from_extend (cast_signed w64) c.extend.result c.extend.ensures.ran
    (YieldsList-from_map_by _ (cast_signed w64) (λ x. x) (YieldsList-from_slice c.args.cells.now (search rules)) (search rules) (λ x r q k. search rules))
    (λ bits e p. (bits, e ∙ map-id c.args.cells.now, p.0))
