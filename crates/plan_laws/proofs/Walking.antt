-- The run in script order of a plan that a draft became: its traps are the draft's, and words stand for contents in it.
use Rattle.std.proofs.Common.{◌≡◌, ℕ, zero, suc, ◌+◌, ◌-◌, ◌<◌, ◌≤◌, true, eq-eqb, List, [], ◌∷◌, ◌++◌, length, map, Option, Some, None, refl, sym, ap, subst, ◌∙◌, arith, append-nil}
use Rattle.std.specs.Prelude.{slice_get}
use Rattle.job_base.specs.declared.JobId.{JobId}
use Rattle.frame_ast.specs.Contents.{Contents}
use Rattle.frame_ast.specs.States.{JobTrap}
use Rattle.kernel_exec.specs.Layout.{StandFor}
use Rattle.merge_laws.specs.Graph.{cells_before}
use Rattle.merge_laws.specs.Pieces as made
use Rattle.frame_core.specs.declared.piece.Piece.{Piece}
use Rattle.frame_core.specs.declared.piece.Piece.TheVariants.{OfScript, OfJob}
use Rattle.frame_core.specs.declared.plan.JobPlan.{JobPlan}
use Rattle.frame_core.specs.declared.plan.Segment.{Segment}
use Rattle.frame_core.specs.declared.plan.Plan.{Plan}
use Rattle.frame_core.specs.Names.{is_job, starts_in, starts_from, numbers_from, segment_at, job_at, pieces_of}
use Rattle.frame_core.specs.Pieces.{parts_from, started, order_from, segment_place, starter_of, place_of}
use Rattle.frame_core.specs.Effects.{part_run}
use Rattle.frame_core.specs.Graphs.{graph_of, before_piece}
use Rattle.frame_core.specs.Ordered.{OpsStand}
use Rattle.frame_core.specs.Output.{job_trap, parts_traps, jobs_traps, pieces_in}
use Rattle.frame_core.proofs.Small.{some_is, none_some}
use Rattle.frame_core.proofs.Placing.{length_parts}
use Rattle.frame_core.proofs.Orders.{StartsAll, starter_alone}
use Rattle.plan_laws.specs.Drafts as draft
use Rattle.plan_laws.specs.Drafts.{Output, segment_piece, part_piece, parts, started_parts, started_traps, output_onto, with_ops, with_traps, cells_past}
use Rattle.plan_laws.specs.Ending.{Ends}
use Rattle.plan_laws.specs.Planned.{PartsStand, StartedStand, ClosedStand}
use Rattle.plan_laws.specs.WholePlans.{turned}
use Rattle.plan_laws.proofs.WholePlans.{turned_append, turned_top, length-turned}
use Rattle.plan_laws.proofs.Closing.{length-numbers}
use Rattle.plan_laws.proofs.Earlier.{nothing, first, starts_are}
use Rattle.plan_laws.proofs.Ending.{all, make, all_parts, all_started, segment_is, AreFrom, from_next, here, IsBegun, cells_are, next_place, before_is}

parts_split : (j a i m : ℕ) → parts_from j a (i + m) ≡ parts_from j a i ++ parts_from j (a + i) m
parts_split j a zero m = let z : 0 + m ≡ m = omega arith in let y : a ≡ a + 0 = omega arith in ap (parts_from j a) z ∙ ap (λ b. parts_from j b m) y
parts_split j a (suc i) m =
    let z : suc i + m ≡ suc (i + m) = omega arith in
    let y : suc a + i ≡ a + suc i = omega arith in
    ap (parts_from j a) z ∙ ap (λ ps. OfJob j a ∷ ps) (parts_split j (suc a) i m ∙ ap (λ b. parts_from j (suc a) i ++ parts_from j b m) y)

module _ (plan : Plan) (segments : List Segment) (final : Segment) (ends : Ends plan segments final) (starts : StartsAll plan) where
  abbrev jobs : List JobPlan
  jobs = plan.jobs.items

  abbrev Begun : List Piece → Type 0
  Begun top = IsBegun plan segments final ends top

  abbrev place_at : ℕ → ℕ
  place_at k = segment_place jobs plan.segments.items k

  begun_top : (xs top : List Piece) → Begun (turned top xs) → Begun top
  begun_top xs top b p lt = sym (turned_top xs top p lt) ∙ b p (let l = length-turned xs top in omega arith)

  -- what is known where a segment's job begins: the pieces up to the segment, and those of the job
  pub record IsHere (k j : ℕ) (x : JobPlan) (top : List Piece) : Type 0 where
    pub starts_it : is_job (starts_in (segment_at plan k)) (suc j) ≡ true
    pub begun : Begun (turned (OfScript k ∷ top) (parts_from j 0 (pieces_of x)))
    pub place : length top ≡ place_at k

  before_part : (k j i : ℕ) (x : JobPlan) (top : List Piece) → IsHere k j x top → i ≤ pieces_of x
      → cells_past plan (parts plan j i ++ all plan (OfScript k ∷ top)) ≡ before_piece plan (OfJob j i)
  unfolding before_piece place_of
  before_part k j i x top h le =
      let m = pieces_of x - i in
      let long : pieces_of x ≡ i + m = omega arith in
      let mine : List Piece = turned (OfScript k ∷ top) (parts_from j 0 i) in
      let split = ap (parts_from j 0) long ∙ parts_split j 0 i m in
      let b : Begun mine = begun_top (parts_from j (0 + i) m) mine
      (subst Begun (ap (turned (OfScript k ∷ top)) split ∙ turned_append (parts_from j 0 i) (parts_from j (0 + i) m) (OfScript k ∷ top)) h.begun) in
      let l = length-turned (parts_from j 0 i) (OfScript k ∷ top) in
      let lp = length_parts j 0 i in
      let own = ap place_at (starter_alone plan starts j k h.starts_it) in
      let at = h.place in
      let place : length mine ≡ suc (place_at (starter_of plan j) + i) = omega arith in
      ap (cells_past plan) (sym (all_parts plan j i (OfScript k ∷ top))) ∙ cells_are plan segments final ends mine b ∙ ap (cells_before (graph_of plan)) place

  traps_are : (k j : ℕ) (x : JobPlan) (top : List Piece) → IsHere k j x top → (i : ℕ) → i ≤ pieces_of x
      → draft.parts_traps plan (all plan (OfScript k ∷ top)) j i ≡ parts_traps plan j i
  traps_are k j x top h zero le = refl
  traps_are k j x top h (suc i) le =
      let before = before_part k j i x top h (omega arith) in
      let earlier = traps_are k j x top h i (omega arith) in
      λ t. earlier t ++ map (job_trap j) (part_run plan j i (before t)).traps

  -- the words of the binds of the job that a segment starts
  abbrev pub StartedStands : Option JobId → Type 0
  StartedStands None = Unit {0}
  StartedStands (Some id) = (x : JobPlan) → job_at plan (id.0 - 1) ≡ Some x → (i : ℕ) → i < pieces_of x
      → (contents : List Contents) × StandFor x.binds.items (before_piece plan (OfJob (id.0 - 1) i)) contents

  abbrev pub AllStand : ℕ → List Segment → Type 0
  AllStand k [] = Unit {0}
  AllStand k (s ∷ more) = OpsStand plan s.ops.items (before_piece plan (OfScript k)) × StartedStands s.starts × AllStand (suc k) more

  -- what the job of a segment adds: n of the jobs from j on are left
  record Adds (s : Segment) (more : List Segment) (earlier : List made.Piece) (traps : List JobTrap) (j n : ℕ) : Type 0 where
    next : ℕ
    left : ℕ
    go_on : starts_from more ≡ numbers_from (suc next) left
    same : next + left ≡ j + n
    stand : StartedStands s.starts
    traps_are : traps ++ started_traps plan earlier s.starts ≡ jobs_traps plan next

  module _ (k : ℕ) (s : Segment) (more : List Segment) (top : List Piece) (at : segment_at plan k ≡ Some s)
      (begun : Begun (turned (OfScript k ∷ top) (started jobs s.starts))) (place : length top ≡ place_at k) where
    abbrev earlier : List made.Piece
    earlier = all plan (OfScript k ∷ top)

    -- its job, by its place
    here_is : (i : JobId) (x : JobPlan) → s.starts ≡ Some i → 0 < i.0 → job_at plan (i.0 - 1) ≡ Some x → IsHere k (i.0 - 1) x top
    here_is i x q pos has =
        let up : i.0 ≡ suc (i.0 - 1) = omega arith in
        record {
          starts_it = ap (λ o. is_job (starts_in o) (suc (i.0 - 1))) at ∙ ap (λ o. is_job o (suc (i.0 - 1))) q ∙ eq-eqb i.0 (suc (i.0 - 1)) up;
          begun = subst (λ ps. Begun (turned (OfScript k ∷ top) ps)) (ap (started jobs) q ∙ ap (Rattle.frame_core.specs.Pieces.parts_of (i.0 - 1)) has) begun;
          place = place;
        }

    stands_by : (i : JobId) → s.starts ≡ Some i → 0 < i.0 → StartedStand plan earlier (Some i) → StartedStands (Some i)
    stands_by i q pos stand x has n lt =
        let h = here_is i x q pos has in
        let r = subst (PartsStand plan earlier (i.0 - 1)) has stand n lt in
        (r.0, subst (λ c. StandFor x.binds.items c r.0) (before_part k (i.0 - 1) n x top h (omega arith)) r.1)

    traps_by : (i : JobId) → s.starts ≡ Some i → 0 < i.0 → (o : Option JobPlan) → job_at plan (i.0 - 1) ≡ o
        → draft.parts_traps plan earlier (i.0 - 1) (pieces_in o) ≡ parts_traps plan (i.0 - 1) (pieces_in o)
    traps_by i q pos None has = refl
    traps_by i q pos (Some x) has = traps_are k (i.0 - 1) x top (here_is i x q pos has) (pieces_of x) (omega arith)

    adds : (j n : ℕ) (traps : List JobTrap) → starts_from (s ∷ more) ≡ numbers_from (suc j) n → StartedStand plan earlier s.starts → traps ≡ jobs_traps plan j
        → Adds s more earlier traps j n
    adds j n traps e stand t = elim (starts_are s.starts more (suc j) n e) [
      | nothing q f ↦ record {
        next = j;
        left = n;
        go_on = f;
        same = refl;
        stand = subst StartedStands (sym q) tt;
        traps_are = ap (λ o. traps ++ started_traps plan earlier o) q ∙ append-nil traps ∙ t;
      }
      | first i l q is long f ↦
          let down : i.0 - 1 ≡ j = omega arith in
          record {
            next = suc j;
            left = l;
            go_on = f;
            same = omega arith;
            stand = subst StartedStands (sym q) (stands_by i q (omega arith) (subst (StartedStand plan earlier) q stand));
            traps_are =
                ap (λ o. traps ++ started_traps plan earlier o) q
                ∙ ap (λ ts. traps ++ ts) (traps_by i q (omega arith) (job_at plan (i.0 - 1)) refl)
                ∙ (λ p. t p ++ parts_traps plan (down p) (pieces_in (job_at plan (down p))));
          }
    ]

  -- ---- all segments

  pub record Walked (k : ℕ) (segments_ : List Segment) (traps : List JobTrap) (n : ℕ) : Type 0 where
    pub all_stand : AllStand k segments_
    pub all_traps : traps ≡ jobs_traps plan n

  pub walk : (more : List Segment) (k : ℕ) (top : List Piece) (told : Output) (j n : ℕ) → AreFrom plan k more → Begun (turned top (order_from jobs k more))
      → length top ≡ place_at k
      → starts_from more ≡ numbers_from (suc j) n → ClosedStand plan (all plan top) more → told.traps ≡ jobs_traps plan j
      → Walked k more (output_onto plan (all plan top) told more).traps (j + n)
  walk [] k top told j n are b place e stand traps =
      let l = ap length e ∙ length-numbers (suc j) n in
      let z : j ≡ j + n = omega arith in
      record { all_stand = tt; all_traps = traps ∙ ap (jobs_traps plan) z }
  walk (s ∷ more) k top told j n are b place e stand traps =
      let h = here plan k s more are in
      let next : List Piece = turned (OfScript k ∷ top) (started jobs s.starts) in
      let turn = turned_append (started jobs s.starts) (order_from jobs (suc k) more) (OfScript k ∷ top) in
      let b_next : Begun (turned next (order_from jobs (suc k) more)) = subst Begun turn b in
      let b_here : Begun next = begun_top (order_from jobs (suc k) more) next b_next in
      let b_top : Begun top = begun_top (order_from jobs k (s ∷ more)) top b in
      let cells = before_is plan segments final ends k top b_top place in
      let long = length-turned (started jobs s.starts) (OfScript k ∷ top) in
      let place_next : length next ≡ place_at (suc k) = (let q = next_place plan segments final ends plan.segments.items k s h.0 in omega arith) in
      let is_piece : segment_piece plan s.waits.items s.ops.items ≡ make plan (OfScript k) = sym (segment_is plan k s h.0 h.1) in
      let earlier_is : segment_piece plan s.waits.items s.ops.items ∷ all plan top ≡ all plan (OfScript k ∷ top) = ap (λ p. p ∷ all plan top) is_piece in
      let a = adds k s more top h.0 b_here place j n told.traps e (subst (λ ps. StartedStand plan ps s.starts) earlier_is stand.1) traps in
      let now : Output = with_traps (started_traps plan (segment_piece plan s.waits.items s.ops.items ∷ all plan top) s.starts)
      (with_ops plan s.ops.items (cells_past plan (all plan top)) told) in
      let now_traps : now.traps ≡ jobs_traps plan a.next = ap (λ ps. told.traps ++ started_traps plan ps s.starts) earlier_is ∙ a.traps_are in
      let same : started_parts plan s.starts ++ segment_piece plan s.waits.items s.ops.items ∷ all plan top ≡ all plan next =
      ap (λ ps. started_parts plan s.starts ++ ps) earlier_is ∙ sym (all_started plan s.starts (OfScript k ∷ top)) in
      let r = walk more (suc k) next now a.next a.left (from_next plan k s more are) b_next place_next a.go_on
      (subst (λ ps. ClosedStand plan ps more) same stand.2) now_traps in
      record {
        all_stand = (subst (OpsStand plan s.ops.items) cells stand.0, a.stand, r.all_stand);
        all_traps = subst (λ ps. (output_onto plan ps now more).traps ≡ jobs_traps plan (a.next + a.left)) (sym same) r.all_traps
            ∙ ap (jobs_traps plan) {x = a.next + a.left} a.same;
      }

  pub ops_at : (ss : List Segment) (n k : ℕ) (s : Segment) → AllStand n ss → slice_get ss k ≡ Some s
      → OpsStand plan s.ops.items (before_piece plan (OfScript (n + k)))
  ops_at [] n k s a h = absurd (none_some h)
  ops_at (x ∷ ss) n zero s a h =
      let z : n ≡ n + 0 = omega arith in
      subst (λ k. OpsStand plan s.ops.items (before_piece plan (OfScript k))) z
      (subst (λ (s : Segment). OpsStand plan s.ops.items (before_piece plan (OfScript n))) (some_is h) a.0)
  ops_at (x ∷ ss) n (suc k) s a h =
      let z : suc n + k ≡ n + suc k = omega arith in
      subst (λ k. OpsStand plan s.ops.items (before_piece plan (OfScript k))) z (ops_at ss (suc n) k s a.2 h)

  pub binds_at : (ss : List Segment) (n k : ℕ) (s : Segment) → AllStand n ss → slice_get ss k ≡ Some s → StartedStands s.starts
  binds_at [] n k s a h = absurd (none_some h)
  binds_at (x ∷ ss) n zero s a h = subst (λ (s : Segment). StartedStands s.starts) (some_is h) a.1
  binds_at (x ∷ ss) n (suc k) s a h = binds_at ss (suc n) k s a.2 h
