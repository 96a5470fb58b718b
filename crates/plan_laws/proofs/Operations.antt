-- The segment at hand does one operation more.
use Rattle.std.proofs.Common.{◌≡◌, ℕ, ◌+◌, ◌<◌, ◌^◌, ◌⊎◌, inl, inr, ⊎_elim, Bool, true, false, ◌||◌, List, [], ◌∷◌, ◌++◌, length, refl, sym, ap, subst, ◌∙◌, arith, append-nil}
use Rattle.std.specs.List.{All}
use Rattle.std.proofs.lemmas.Bool.{cases_eq}
use Rattle.std.proofs.lemmas.List.Elements.{All-push, All-head, All-tail}
use Rattle.std.proofs.lemmas.List.{append_assoc}
use Rattle.job_base.specs.declared.JobId.{JobId}
use Rattle.merge_laws.specs.Graph.{Cells}
use Rattle.merge_laws.specs.Pieces.{Piece, piece_at, IsFramed}
use Rattle.merge_laws.specs.Ledger.{Ledger, IsLedger, AreInOrder}
use Rattle.merge_laws.proofs.Places.{at_new, at_old}
use Rattle.merge_laws.proofs.Touching.{segments_keep_order}
use Rattle.frame_core.specs.declared.plan.Op.{Op}
use Rattle.frame_core.specs.declared.plan.Plan.{Plan}
use Rattle.frame_core.specs.Touches.{reads_in, writes_in, act_touches, ops_touch}
use Rattle.frame_core.specs.Operations.{op_cells, ops_cells, ops_refused}
use Rattle.frame_core.specs.Output.{op_line, ops_lines}
use Rattle.frame_core.specs.Ordered.{OpFits, ActStands, OpsStand}
use Rattle.frame_core.proofs.Extents.Touching.{reads_append, writes_append, writes_read}
use Rattle.frame_core.proofs.Acting.{AllFit, ops_keep, ops_same}
use Rattle.frame_ast.specs.States.{ScriptState}
use Rattle.plan_laws.specs.Drafts.{Draft, segment_piece, closed_pieces, pieces_of, cells_closed, cells_of, output_of}
use Rattle.plan_laws.specs.Leaving.{AllHeld}
use Rattle.plan_laws.specs.Planned.{Outline, HasPieceOf, IsPlanned, Adds}
use Rattle.plan_laws.specs.Operations.{AddsOutput, StaysOrdered, OperationsArePlanned, IsSettledFor}

ops_touch-append : (xs ys : List Op) → ops_touch (xs ++ ys) ≡ ops_touch xs ++ ops_touch ys
ops_touch-append [] ys = refl
ops_touch-append (op ∷ xs) ys = ap (λ ts. act_touches op.act ++ ts) (ops_touch-append xs ys)
    ∙ sym (append_assoc (act_touches op.act) (ops_touch xs) (ops_touch ys))

touches_one : (op : Op) → ops_touch (op ∷ []) ≡ act_touches op.act
touches_one op = append-nil (act_touches op.act)

module _ (plan : Plan) where
  pub ops_cells-append : (xs ys : List Op) (cells : Cells) → ops_cells plan (xs ++ ys) cells ≡ ops_cells plan ys (ops_cells plan xs cells)
  ops_cells-append [] ys cells = refl
  ops_cells-append (op ∷ xs) ys cells = ops_cells-append xs ys (op_cells plan op cells)

  pub ops_lines-append : (xs ys : List Op) (cells : Cells) → ops_lines plan (xs ++ ys) cells ≡ ops_lines plan xs cells
      ++ ops_lines plan ys (ops_cells plan xs cells)
  ops_lines-append [] ys cells = refl
  ops_lines-append (op ∷ xs) ys cells =
      ap (λ l. op_line plan op cells ++ l) (ops_lines-append xs ys (op_cells plan op cells)) ∙ sym (append_assoc (op_line plan op cells) _ _)

  pub ops_refused-append : (xs ys : List Op) (cells : Cells) → ops_refused plan (xs ++ ys) cells ≡ ops_refused plan xs cells + ops_refused plan ys
      (ops_cells plan xs cells)
  ops_refused-append [] ys cells = omega arith
  ops_refused-append (op ∷ xs) ys cells = let r = ops_refused-append xs ys (op_cells plan op cells) in omega arith

  pub ops_stand-append : (xs : List Op) (op : Op) (cells : Cells) → OpsStand plan xs cells → ActStands op.act (ops_cells plan xs cells)
      → OpsStand plan (xs ++ op ∷ []) cells
  ops_stand-append [] op cells s a = (a, tt)
  ops_stand-append (x ∷ xs) op cells s a = (s.0, ops_stand-append xs op (op_cells plan x cells) s.1 a)

  all_fit : (small : plan.cells < 2 ^ 32) (xs : List Op) → All (OpFits plan) xs → AllFit plan small xs
  all_fit small [] h = tt
  all_fit small (op ∷ more) h = (All-head (OpFits plan) op more h, all_fit small more (All-tail (OpFits plan) op more h))

  -- a segment keeps to its footprint
  pub segment_framed : plan.cells < 2 ^ 32 → (waits : List JobId) (ops : List Op) (before : Cells) → All (OpFits plan) ops
      → IsFramed (segment_piece plan waits ops) before
  segment_framed small waits ops before fit =
      let f = all_fit small ops fit in
      record {
        written = λ cells agree w wr. ops_same plan small ops before cells f agree w (agree w (writes_read (ops_touch ops) w wr));
        kept = λ cells agree w out. ops_keep plan small ops cells w f out;
      }

module _ (plan : Plan) (l : Ledger) (waits : List JobId) (ops : List Op) (op : Op) (earlier : List Piece) where
  or_cases : (a b : Bool) → (a || b) ≡ true → (a ≡ true) ⊎ (b ≡ true)
  or_cases true b e = inl refl
  or_cases false b e = inr e

  pub more_reads : (w : ℕ) → reads_in (ops_touch (ops ++ op ∷ [])) w ≡ true → (reads_in (ops_touch ops) w ≡ true) ⊎ (reads_in (act_touches op.act) w ≡ true)
  more_reads w e =
      let split : (reads_in (ops_touch ops) w || reads_in (act_touches op.act) w) ≡ true =
      ap (λ ts. reads_in (ops_touch ops) w || reads_in ts w) (sym (touches_one op)) ∙ sym (reads_append (ops_touch ops) (ops_touch (op ∷ [])) w)
      ∙ ap (λ ts. reads_in ts w) (sym (ops_touch-append ops (op ∷ []))) ∙ e in
      or_cases _ _ split

  pub more_writes : (w : ℕ) → writes_in (ops_touch (ops ++ op ∷ [])) w ≡ true → (writes_in (ops_touch ops) w ≡ true) ⊎ (writes_in (act_touches op.act) w ≡ true)
  more_writes w e =
      let split : (writes_in (ops_touch ops) w || writes_in (act_touches op.act) w) ≡ true =
      ap (λ ts. writes_in (ops_touch ops) w || writes_in ts w) (sym (touches_one op)) ∙ sym (writes_append (ops_touch ops) (ops_touch (op ∷ [])) w)
      ∙ ap (λ ts. writes_in ts w) (sym (ops_touch-append ops (op ∷ []))) ∙ e in
      or_cases _ _ split

  pub op_in_order : IsLedger l → AreInOrder l (segment_piece plan waits ops ∷ earlier) → IsSettledFor l op.act
      → AreInOrder l (segment_piece plan waits (ops ++ op ∷ []) ∷ earlier)
  op_in_order is order settled =
      segments_keep_order l (segment_piece plan waits ops) (segment_piece plan waits (ops ++ op ∷ [])) earlier is order (record {
        segment = refl;
        job = refl;
        after = λ j. refl;
        reads = λ w e. ⊎_elim (λ u. inl u) (λ u. inr (settled.reads w u)) (more_reads w e);
        writes = λ w e. ⊎_elim (λ u. inl u) (λ u. inr (settled.writes w u)) (more_writes w e);
        reads_written = λ w e. writes_read (ops_touch (ops ++ op ∷ [])) w e;
      })

-- a head with the same job changes no job's place
same_parts : (x y : Piece) (earlier : List Piece) → y.job ≡ x.job → (j : ℕ) → HasPieceOf (x ∷ earlier) j → HasPieceOf (y ∷ earlier) j
same_parts x y earlier e j h = (
  h.0,
  h.1,
  ⊎_elim
      (λ here. ap (λ p. (piece_at (y ∷ earlier) p).job) here ∙ ap (λ (z : Piece). z.job) (at_new y earlier) ∙ e
      ∙ sym (ap (λ (z : Piece). z.job) (at_new x earlier)) ∙ ap (λ p. (piece_at (x ∷ earlier) p).job) (sym here) ∙ h.2)
      (λ ne. ap (λ (z : Piece). z.job) (at_old y earlier h.0 ne) ∙ sym (ap (λ (z : Piece). z.job) (at_old x earlier h.0 ne)) ∙ h.2)
      (cases_eq h.0 (length earlier)),
)

-- the plan with one more operation, in the form of the fields
abbrev pub with_op : Draft → Op → Draft
with_op d op = record { segments = d.segments; jobs = d.jobs; waits = d.waits; ops = d.ops ++ op ∷ [] }

pub added : (d e : Draft) (op : Op) → Adds d e (op ∷ []) → with_op d op ≡ e
added d e op a = λ i. record { segments = sym-segments i; jobs = sym-jobs i; waits = sym-waits i; ops = sym-ops i }
  where
    sym-segments : d.segments ≡ e.segments
    sym-segments = sym a.segments

    sym-jobs : d.jobs ≡ e.jobs
    sym-jobs = sym a.jobs

    sym-waits : d.waits ≡ e.waits
    sym-waits = sym a.waits

    sym-ops : d.ops ++ op ∷ [] ≡ e.ops
    sym-ops = sym a.ops

module _ (x : Outline) (small : x.plan.cells < 2 ^ 32) (s t : ScriptState) (d : Draft) (op : Op) (was : IsPlanned x s d) (fits : OpFits x.plan op)
    (stands : ActStands op.act (cells_of x.plan d)) where
  abbrev e : Draft
  e = with_op d op

  cells_are : cells_of x.plan e ≡ op_cells x.plan op (cells_of x.plan d)
  cells_are = ops_cells-append x.plan d.ops (op ∷ []) (cells_closed x.plan d)

  fit_ops : All (OpFits x.plan) e.ops
  fit_ops = All-push (OpFits x.plan) d.ops op was.fitting.ops fits

  operation_planned : StaysOrdered x s t d e → AllHeld x.starts t (op_cells x.plan op (cells_of x.plan d)) → AddsOutput x.plan op (cells_of x.plan d) s t
      → IsPlanned x t e
  operation_planned order held tell = record {
    ordered = record {
      count = order.count;
      before = order.before;
      ledger = order.ledger;
      pieces = order.pieces;
      parts = λ j pos le. same_parts (segment_piece x.plan d.waits d.ops) (segment_piece x.plan d.waits e.ops) (closed_pieces x.plan d) refl j
          (was.ordered.parts j pos le);
      framed = (segment_framed x.plan small d.waits e.ops (cells_closed x.plan d) fit_ops, was.ordered.framed.1);
    };
    fitting = record {
      first = was.fitting.first;
      jobs_later = was.fitting.jobs_later;
      jobs_are = was.fitting.jobs_are;
      jobs_fit = was.fitting.jobs_fit;
      firsts = was.fitting.firsts;
      deps = was.fitting.deps;
      starts = was.fitting.starts;
      closed = was.fitting.closed;
      waits = was.fitting.waits;
      ops = fit_ops;
    };
    standing = record {
      closed = was.standing.closed;
      ops = ops_stand-append x.plan d.ops op (cells_closed x.plan d) was.standing.ops stands;
      contents = λ c below alive. subst (λ cells. Rattle.kernel_exec.specs.Layout.Holds cells (Rattle.plan_laws.specs.Binds.bind_of_container x.starts t c)
          (t.contents c)) (sym cells_are) (held c below alive);
      within = order.within;
    };
    output = record {
      lines = tell.lines ∙ ap (λ l. l ++ op_line x.plan op (cells_of x.plan d)) was.output.lines
          ∙ append_assoc x.begun.lines (output_of x.plan d).lines (op_line x.plan op (cells_of x.plan d))
          ∙ ap (λ l. x.begun.lines ++ l) (append_assoc (Rattle.plan_laws.specs.Drafts.output_closed x.plan d).lines
          (ops_lines x.plan d.ops (cells_closed x.plan d)) (op_line x.plan op (cells_of x.plan d))
          ∙ ap (λ l. (Rattle.plan_laws.specs.Drafts.output_closed x.plan d).lines ++ l)
          (ap (λ l. ops_lines x.plan d.ops (cells_closed x.plan d) ++ l) (sym (append-nil (op_line x.plan op (cells_of x.plan d))))
          ∙ sym (ops_lines-append x.plan d.ops (op ∷ []) (cells_closed x.plan d))));
      refused = let r = was.output.refused in let q = tell.refused in let a = ops_refused-append x.plan d.ops (op ∷ []) (cells_closed x.plan d) in omega arith;
      traps = tell.traps ∙ was.output.traps;
    };
  }

pub operations_are_planned : OperationsArePlanned
operations_are_planned x small s t d e op was add fits stands order held tell =
    subst (IsPlanned x t) (added d e op add)
    (operation_planned x small s t d op was fits stands (subst (StaysOrdered x s t d) (sym (added d e op add)) order) held tell)
