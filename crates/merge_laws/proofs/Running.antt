-- Each event keeps what a state has to keep, and so does a list of events.
use Rattle.std.proofs.Common.{◌≡◌, ℕ, ⊎_elim, Bool, true, cond, ◌||◌, List, [], ◌∷◌, eq-eqb, ne_eqb, refl, sym, ap, subst, ◌∙◌, arith, Option, Some, None}
use Rattle.merge_laws.specs.Numbers.{has}
use Rattle.merge_laws.specs.Graph.{PieceGraph, cells_before, IsWellOrdered}
use Rattle.merge_laws.specs.Core.{Lease}
use Rattle.merge_laws.specs.Steps.{ChangesLease, Begins, Ends}
use Rattle.merge_laws.specs.Runs.{RunState, start, core_of, Event, take, steal, finish, with_lease, MayTake, IsLegal, taken, finished, after, run, IsLegalRun, IsKept, IsEnded, RunsKeepTheMerge, EndedRunsAreInScriptOrder, EndedRunsAgree}
use Rattle.merge_laws.proofs.Tests.{not_both, some_is, none_some, chosen, not_chosen}
use Rattle.merge_laws.proofs.Order.{merged_up_to, latest_none}
use Rattle.merge_laws.proofs.Merging.{what_may_begin_is_clear, begins_keep_the_merge, ends_keep_the_merge, changed, same_piece}

pub with_lease_changes : (f : ℕ → Option Lease) (k : ℕ) (x : Option Lease) → ChangesLease f (with_lease f k x) k x
with_lease_changes f k x = record {
  here = chosen k k x (f k) refl;
  there = λ j n. not_chosen j k x (f j) n;
}

start_kept : (g : PieceGraph) → IsKept g (start g)
start_kept g = record {
  consistent = record {
    sound = record {
      ended_ready = λ p e. absurd (not_both e refl);
      lease_ready = λ k l e. absurd (none_some e);
      lease_below = λ k l e. absurd (none_some e);
      lease_unended = λ k l e. absurd (none_some e);
      lease_once = λ j k l m e f. absurd (none_some e);
    };
    merged = λ w none. sym (ap (λ k. cells_before g k w) (latest_none g w g.count));
  };
  local = λ k l w e. absurd (none_some e);
  once = tt;
}

-- Taking is a begin whose local cells are all cells.
take_kept : (g : PieceGraph) → IsWellOrdered g → (s : RunState) → IsKept g s → (k p : ℕ) → MayTake g s k p → IsKept g (taken s k p)
take_kept g o s K k p M =
    let clear = what_may_begin_is_clear g (core_of s) o K.consistent p M.may_begin in
    let x : Option Lease = Some record { piece = p; local = s.cells } in
    let ch : ChangesLease s.lease (with_lease s.lease k x) k x = with_lease_changes s.lease k x in
    let B : Begins g (core_of s) (core_of (taken s k p)) k p = record {
      free = M.seat_free;
      local = s.cells;
      local_is = clear.cells;
      leases = ch;
      ended = λ q. refl;
      cells = λ w. refl;
    } in
    record {
      consistent = (begins_keep_the_merge g (core_of s) (core_of (taken s k p)) o K.consistent k p M.may_begin B).0;
      local = λ j m w e r. ⊎_elim
          (λ h. sym (ap (λ (y : Lease). y.local w) (some_is h.1)) ∙ (clear.cells w (subst (λ y. g.reads y w ≡ true) (sym (same_piece h.1)) r)
          ∙ ap (λ y. cells_before g y w) (same_piece h.1)))
          (λ h. K.local j m w h.1 r) (changed ch j m e);
      once = K.once;
    }

-- Finishing is an end whose local cells are what the piece makes of the lease's.
finish_kept : (g : PieceGraph) → IsWellOrdered g → (s : RunState) → IsKept g s → (k : ℕ) (l : Lease) → s.lease k ≡ Some l → IsKept g (finished g s k (Some l))
finish_kept g o s K k l e =
    let d : RunState = finished g s k (Some l) in
    let ch : ChangesLease s.lease d.lease k None = with_lease_changes s.lease k None in
    let S = K.consistent.sound in
    let E : Ends g (core_of s) (core_of d) k = record {
      was = l;
      lease = e;
      local = g.effect l.piece l.local;
      local_is = λ w t. o.reads_only l.piece l.local (S.lease_below k l e) (λ v r. K.local k l v e r) w t;
      leases = ch;
      ended_here = ap (λ (b : Bool). b || has l.piece s.ended) (eq-eqb l.piece l.piece refl);
      ended_there = λ q n. ap (λ (b : Bool). b || has q s.ended) (ne_eqb q l.piece n);
      written = λ w t. ap (λ (b : Bool). cond b (g.effect l.piece l.local w) (s.cells w)) t;
      others = λ w t. ap (λ (b : Bool). cond b (g.effect l.piece l.local w) (s.cells w)) t;
    } in
    record {
      consistent = (ends_keep_the_merge g (core_of s) (core_of d) o K.consistent k E).0;
      local = λ j m w f r. ⊎_elim (λ h. absurd (none_some h.1)) (λ h. K.local j m w h.1 r) (changed ch j m f);
      once = (S.lease_unended k l e, K.once);
    }

after_kept : (g : PieceGraph) → IsWellOrdered g → (s : RunState) → IsKept g s → (e : Event) → IsLegal g s e → IsKept g (after g s e)
after_kept g o s K (take k p) M = take_kept g o s K k p M
after_kept g o s K (steal k v p) M = take_kept g o s K k p M
after_kept g o s K (finish k p) M = subst (λ x. IsKept g (finished g s k x)) (sym M.lease)
    (finish_kept g o s K k (record { piece = p; local = M.local }) M.lease)

pub run_kept : (g : PieceGraph) → IsWellOrdered g → (s : RunState) → IsKept g s → (es : List Event) → IsLegalRun g s es → IsKept g (run g s es)
run_kept g o s K [] h = K
run_kept g o s K (e ∷ es) h = run_kept g o (after g s e) (after_kept g o s K e h.0) es h.1

pub runs_keep_the_merge : RunsKeepTheMerge
runs_keep_the_merge g o es h = run_kept g o (start g) (start_kept g) es h

-- where all pieces are ended no lease is left, and the latest piece that writes a word is the latest of all
pub ended_cells : (g : PieceGraph) → IsWellOrdered g → (s : RunState) → IsKept g s → IsEnded g s → (w : ℕ) → s.cells w ≡ cells_before g g.count w
ended_cells g o s K all w = let C = K.consistent in let S = C.sound in C.merged w
    (λ k l e. absurd (not_both (all l.piece (S.lease_below k l e)) (S.lease_unended k l e)))
    ∙ merged_up_to g w o (core_of s).ended g.count g.count (omega arith) (omega arith) (λ q lt t. all q lt) (λ q le lt t. absurd (omega arith))

pub ended_runs_are_in_script_order : EndedRunsAreInScriptOrder
ended_runs_are_in_script_order g o es h all w = ended_cells g o (run g (start g) es) (runs_keep_the_merge g o es h) all w

pub ended_runs_agree : EndedRunsAgree
ended_runs_agree g o es fs h i all every w = ended_runs_are_in_script_order g o es h all w ∙ sym (ended_runs_are_in_script_order g o fs i every w)
