-- Operations that are run one after another.
use Rattle.std.proofs.Common.{◌≡◌, ℕ, ◌+◌, ◌<◌, Bool, true, false, ◌||◌, List, [], ◌∷◌, refl, sym, ◌∙◌, ap, subst, arith, length, All, suc}
use Rattle.std.proofs.lemmas.Grind.{common_steps}
use Rattle.merge_laws.specs.Graph.{Cells}
use Rattle.frame_core.specs.declared.plan.Op.{Op}
use Rattle.frame_core.specs.declared.plan.Plan.{Plan}
use Rattle.frame_core.specs.Touches.{reads_in, writes_in, act_touches, ops_touch}
use Rattle.frame_core.specs.Operations.{op_cells, op_answer, ops_cells, ops_refused, one_if_refused}
use Rattle.frame_core.specs.Output.{op_line, ops_lines}
use Rattle.frame_core.specs.Ordered.{OpFits, ActStands, OpsStand}
use Rattle.frame_core.specs.Rights.{MayReadIn, MayWriteIn}
use Rattle.frame_core.proofs.Extents.Touching.{reads_append, writes_append}
use Rattle.plan_run.specs.Lines.{one_if}
use Rattle.plan_run.specs.Says.{Said, Says}
use Rattle.plan_run.proofs.Saying.{InText, text_start, text_next, text_end}

pub all_tail : {A : Type 0} (P : A → Type 0) (rest xs : List A) (x : A) → rest ≡ x ∷ xs → All P rest → All P xs
all_tail P rest xs x e h k d less = let q : All P (x ∷ xs) = subst (λ (l : List _). All P l) e h in
    let more : suc k < length (x ∷ xs) = grind (arith, common_steps) in q (suc k) d more

pub all_head : {A : Type 0} (P : A → Type 0) (rest xs : List A) (x : A) → rest ≡ x ∷ xs → All P rest → P x
all_head P rest xs x e h = let q : All P (x ∷ xs) = subst (λ (l : List _). All P l) e h in let more : 0 < length (x ∷ xs) = grind (arith, common_steps) in
    q 0 x more

pub first_way : (a b : Bool) → a ≡ true → (a || b) ≡ true
first_way true b h = refl
first_way false b h = cc

pub second_way : (a b : Bool) → b ≡ true → (a || b) ≡ true
second_way true b h = refl
second_way false b h = h

-- What the operations `rest` still need, and what the others before them did.
pub record InOps (plan : Plan) (readable writable : ℕ → Bool) (a b : Said) (ops rest : List Op) (c d : Cells) (r s : ℕ) : Type 0 where
  pub fits : All (OpFits plan) rest
  pub reads : MayReadIn (ops_touch rest) readable
  pub writes : MayWriteIn (ops_touch rest) writable
  pub stands : OpsStand plan rest d
  pub cells : ops_cells plan ops c ≡ ops_cells plan rest d
  pub text : InText a b (ops_lines plan ops c) (ops_lines plan rest d)
  pub count : s + ops_refused plan rest d ≡ r + ops_refused plan ops c

module _ (plan : Plan) (readable writable : ℕ → Bool) (a b : Said) (ops rest tail : List Op) (op : Op) (c d : Cells) (r s : ℕ) where
  abbrev In : List Op → Type 0
  In l = InOps plan readable writable a b ops l c d r s

  pub op_fits : rest ≡ op ∷ tail → In rest → OpFits plan op
  op_fits at p = all_head (OpFits plan) rest tail op at p.fits

  pub op_reads : rest ≡ op ∷ tail → In rest → MayReadIn (act_touches op.act) readable
  op_reads at p w t = let q : In (op ∷ tail) = subst In at p in q.reads w
      (reads_append (act_touches op.act) (ops_touch tail) w ∙ first_way (reads_in (act_touches op.act) w) _ t)

  pub op_writes : rest ≡ op ∷ tail → In rest → MayWriteIn (act_touches op.act) writable
  op_writes at p w t = let q : In (op ∷ tail) = subst In at p in q.writes w
      (writes_append (act_touches op.act) (ops_touch tail) w ∙ first_way (writes_in (act_touches op.act) w) _ t)

  pub op_stands : rest ≡ op ∷ tail → In rest → ActStands op.act d
  op_stands at p = let q : In (op ∷ tail) = subst In at p in q.stands.0

  module _ (z : Said) (e : Cells) (x : Bool) (at : rest ≡ op ∷ tail) (p : In rest) (cells : e ≡ op_cells plan op d)
      (is : one_if x ≡ one_if_refused (op_answer plan op d)) where
    pub op_step : Says b z (op_line plan op d) → InOps plan readable writable a z ops tail c e r (s + one_if x)
    op_step says =
        let q : In (op ∷ tail) = subst In at p in
        let k : s + (one_if x + ops_refused plan tail (op_cells plan op d)) ≡ r + ops_refused plan ops c = rw is q.count in
        subst (λ (v : Cells). InOps plan readable writable a z ops tail c v r (s + one_if x)) (sym cells) record {
          fits = all_tail (OpFits plan) rest tail op at p.fits;
          reads = λ w t. q.reads w (reads_append (act_touches op.act) (ops_touch tail) w ∙ second_way (reads_in (act_touches op.act) w) _ t);
          writes = λ w t. q.writes w (writes_append (act_touches op.act) (ops_touch tail) w ∙ second_way (writes_in (act_touches op.act) w) _ t);
          stands = q.stands.1;
          cells = q.cells;
          text = text_next a b z (ops_lines plan ops c) (op_line plan op d) (ops_lines plan tail (op_cells plan op d)) q.text says;
          count = omega (arith, k);
        }

    pub step_refused : Says b z (op_line plan op d) → x ≡ true → InOps plan readable writable a z ops tail c e r (s + 1)
    step_refused says on = subst (λ (k : ℕ). InOps plan readable writable a z ops tail c e r k) (ap (λ (y : Bool). s + one_if y) on) (op_step says)

    pub step_done : Says b z (op_line plan op d) → x ≡ false → InOps plan readable writable a z ops tail c e r s
    step_done says on =
        let q : s + one_if x ≡ s + 0 = ap (λ (y : Bool). s + one_if y) on in
        subst (λ (k : ℕ). InOps plan readable writable a z ops tail c e r k) (omega (arith, q)) (op_step says)

    pub step_few : x ≡ true → (limit : ℕ) → r + ops_refused plan ops c < limit → s + 1 < limit
    step_few on limit few =
        let q : In (op ∷ tail) = subst In at p in
        let k : s + (one_if_refused (op_answer plan op d) + ops_refused plan tail (op_cells plan op d)) ≡ r + ops_refused plan ops c = q.count in
        let one : one_if_refused (op_answer plan op d) ≡ 1 = sym is ∙ ap one_if on in
        omega (arith, k, one, few)

pub ops_start : (plan : Plan) (readable writable : ℕ → Bool) (a : Said) (ops : List Op) (c : Cells) (r : ℕ)
    → All (OpFits plan) ops → MayReadIn (ops_touch ops) readable → MayWriteIn (ops_touch ops) writable → OpsStand plan ops c
    → InOps plan readable writable a a ops ops c c r r
ops_start plan readable writable a ops c r fits reads writes stands = record {
  fits = fits;
  reads = reads;
  writes = writes;
  stands = stands;
  cells = refl;
  text = text_start a (ops_lines plan ops c);
  count = refl;
}

pub record RanOps (plan : Plan) (a b : Said) (ops : List Op) (c d : Cells) (r s : ℕ) : Type 0 where
  pub cells : d ≡ ops_cells plan ops c
  pub text : Says a b (ops_lines plan ops c)
  pub count : s ≡ r + ops_refused plan ops c

pub ops_end : (plan : Plan) (readable writable : ℕ → Bool) (a b : Said) (ops rest : List Op) (c d : Cells) (r s : ℕ) → rest ≡ []
    → InOps plan readable writable a b ops rest c d r s → RanOps plan a b ops c d r s
ops_end plan readable writable a b ops rest c d r s e p =
    let q : InOps plan readable writable a b ops [] c d r s = subst (λ (l : List Op). InOps plan readable writable a b ops l c d r s) e p in
    let k : s + 0 ≡ r + ops_refused plan ops c = q.count in
    record { cells = sym q.cells; text = text_end a b (ops_lines plan ops c) q.text; count = omega (arith, k) }

-- the same on a memory that allows the same
pub in_mem : (plan : Plan) (readable readable' writable writable' : ℕ → Bool) (a b : Said) (ops rest : List Op) (c d : Cells) (r s : ℕ) → readable' ≡ readable
    → writable' ≡ writable
    → InOps plan readable writable a b ops rest c d r s → InOps plan readable' writable' a b ops rest c d r s
in_mem plan readable readable' writable writable' a b ops rest c d r s e h p =
    subst (λ (x : ℕ → Bool). InOps plan x writable' a b ops rest c d r s) (sym e)
    (subst (λ (x : ℕ → Bool). InOps plan readable x a b ops rest c d r s) (sym h) p)
