-- Every touch of a piece is within the words of its plan.
use Rattle.std.proofs.Common.{◌≡◌, ℕ, zero, suc, ◌+◌, ◌-◌, ◌*◌, ◌<◌, ◌≤◌, inl, inr, ⊎_elim, Bool, true, false, cond, List, [], ◌∷◌, ◌++◌, Option, Some, None, refl, sym, ap, ◌∙◌, arith}
use Rattle.std.specs.Prelude.{slice_get}
use Rattle.std.specs.List.{All}
use Rattle.std.proofs.Math.Nat.{mul-le-mul_right}
use Rattle.std.proofs.lemmas.Bool.{or_cases, cases_lt}
use Rattle.std.proofs.lemmas.List.Elements.{All-head, All-tail}
use Rattle.frame_ast.specs.declared.kernel.Param.{Param}
use Rattle.frame_ast.specs.Checked.{is_read}
use Rattle.kernel_exec.specs.declared.binds.Bind.{Bind}
use Rattle.kernel_exec.specs.declared.binds.Bind.TheVariants.{Int, Array, View, List as WholeList, Ref, Map, Stream}
use Rattle.kernel_exec.specs.Binds.{end_of, width_if}
use Rattle.frame_core.specs.declared.piece.Piece.TheVariants.{OfScript, OfJob}
use Rattle.frame_core.specs.declared.plan.Act.{Act}
use Rattle.frame_core.specs.declared.plan.Act.TheVariants.{Fill, Move, Say, Set, AddTo, Put, Remove, Clear, Print, Report}
use Rattle.frame_core.specs.declared.plan.JobPlan.{JobPlan}
use Rattle.frame_core.specs.declared.plan.Op.{Op}
use Rattle.frame_core.specs.declared.plan.Segment.{Segment}
use Rattle.frame_core.specs.declared.plan.Plan.{Plan}
use Rattle.frame_core.specs.declared.touch.Touch.{Touch}
use Rattle.frame_core.specs.Names.{job_pieces, job_at, segment_at, kernel_of, ops_in, indexes_of, pieces_of}
use Rattle.frame_core.specs.Pieces.{own_word, piece_numbered}
use Rattle.frame_core.specs.Know.{piece_count}
use Rattle.frame_core.specs.Touches.{has_word, reads_in, writes_in, end_place, owned, width_in, used, through, binds_touch, act_touches, ops_touch}
use Rattle.frame_core.specs.Effects.{params_in, part_touches, is_last, all_own_words, touches}
use Rattle.frame_core.specs.Ordered.{OpFits, ActFits, IsWellOrderedPlan}
use Rattle.frame_core.specs.Laws.{StaysWithin, PiecesStayWithin, ReadsStayWithin}
use Rattle.frame_core.proofs.Small.{not_both}
use Rattle.frame_core.proofs.Extents.Touching.{writes_append, writes_read, it_has}
use Rattle.frame_core.proofs.Numbered.{pieces_within, segment_numbered}
use Rattle.frame_core.proofs.Planned.{has_kernel, pieces_are_named}

-- touches that end before a word
abbrev pub AreBelow : ℕ → List Touch → Type 0
AreBelow n [] = Unit {0}
AreBelow n (t ∷ more) = (t.end ≤ n) × AreBelow n more

pub below_append : (n : ℕ) (xs ys : List Touch) → AreBelow n xs → AreBelow n ys → AreBelow n (xs ++ ys)
below_append n [] ys a b = b
below_append n (t ∷ xs) ys a b = (a.0, below_append n xs ys a.1 b)

below_more : (n m : ℕ) (xs : List Touch) → n ≤ m → AreBelow n xs → AreBelow m xs
below_more n m [] le a = tt
below_more n m (t ∷ xs) le a = (let lo = a.0 in omega arith, below_more n m xs le a.1)

pub read_below : (n : ℕ) (xs : List Touch) (w : ℕ) → AreBelow n xs → reads_in xs w ≡ true → w < n
read_below n [] w a e = absurd (not_both e refl)
read_below n (t ∷ xs) w a e = ⊎_elim
    (λ l. let in_ = (it_has t w l).1 in let le = a.0 in omega arith)
    (λ r. read_below n xs w a.1 r)
    (or_cases (has_word t w) (reads_in xs w) e)

-- THROUGH A BIND

end_within : (count width to : ℕ) → end_place count width to ≤ count
end_within count zero to = omega arith
end_within count (suc n) to = omega arith

owned_below : (n start size count width from to : ℕ) → start + count * size ≤ n → (owned start size count width from to).end ≤ n
owned_below n start size count width from to le =
    let much = mul-le-mul_right {m = end_place count width to} {n = count} size (end_within count width to) in
    omega arith

pub used_below : (n : ℕ) (parallel : Bool) (b : Bind) (from to : ℕ) → end_of b ≤ n → AreBelow n (used parallel b from to)
used_below n parallel (Int z) from to le = tt
used_below n parallel (Array at own) from to le = (owned_below n at.start 1 at.len (width_in parallel own) from to (omega arith), tt)
used_below n parallel (View at own) from to le = (owned_below n (at.start + 1) 1 at.cap (width_in parallel own) from to (omega arith), (omega arith, tt))
used_below n parallel (WholeList at) from to le = (le, tt)
used_below n parallel (Ref at) from to le = (le, tt)
used_below n parallel (Map at) from to le = (le, tt)
used_below n parallel (Stream at own) from to le = (owned_below n at.start (at.room + 1) at.count (width_in parallel (width_if own)) from to le, tt)

by_access : (n : ℕ) (r parallel : Bool) (b : Bind) (from to : ℕ) → end_of b ≤ n
    → AreBelow n (cond r (Rattle.frame_core.specs.Touches.whole b false ∷ []) (used parallel b from to))
by_access n true parallel b from to le = (le, tt)
by_access n false parallel b from to le = used_below n parallel b from to le

pub binds_below : (n : ℕ) (parallel : Bool) (ps : List Param) (bs : List Bind) (from to : ℕ) → ((y : ℕ) (b : Bind) → slice_get bs y ≡ Some b → end_of b ≤ n)
    → AreBelow n (binds_touch parallel ps bs from to)
binds_below n parallel [] bs from to within = tt
binds_below n parallel (p ∷ ps) [] from to within = tt
binds_below n parallel (p ∷ ps) (b ∷ bs) from to within =
    below_append n (through parallel p b from to) (binds_touch parallel ps bs from to) (by_access n (is_read p.access) parallel b from to (within 0 b refl))
    (binds_below n parallel ps bs from to (λ y c e. within (suc y) c e))

-- OPERATIONS

act_below : (plan : Plan) (act : Act) → ActFits plan act → AreBelow plan.cells (act_touches act)
act_below plan (Fill span literal) h = (h.0, tt)
act_below plan (Move from to) h = (h.0, (h.1, tt))
act_below plan (Say refusal) h = tt
act_below plan (Set at i v) h = (h.0.0, tt)
act_below plan (AddTo at k v) h = (h.0.0, tt)
act_below plan (Put at k v) h = (h.0.0, tt)
act_below plan (Remove at i) h = (h.0.0, tt)
act_below plan (Clear at) h = (h.0.0, tt)
act_below plan (Print at) h = (h.0.0, tt)
act_below plan (Report made) h = tt

ops_below : (plan : Plan) (ops : List Op) → All (OpFits plan) ops → AreBelow plan.cells (ops_touch ops)
ops_below plan [] h = tt
ops_below plan (op ∷ more) h = below_append plan.cells (act_touches op.act) (ops_touch more) (act_below plan op.act (All-head (OpFits plan) op more h).act)
    (ops_below plan more (All-tail (OpFits plan) op more h))

-- PIECES

module _ (plan : Plan) (well : IsWellOrderedPlan plan) where
  cells_below : plan.cells ≤ plan.words
  cells_below = let e = well.sized.words_are in omega arith

  segment_below : (k : ℕ) (o : Option Segment) → segment_at plan k ≡ o → AreBelow plan.cells (ops_touch (ops_in o))
  segment_below k None e = tt
  segment_below k (Some s) e = ops_below plan s.ops.items (well.ops k s e)

  last_below : (b : Bool) → AreBelow plan.words (cond b (all_own_words plan ∷ []) [])
  last_below true = (omega arith, tt)
  last_below false = tt

  last_writes : (b : Bool) (w : ℕ) → writes_in (cond b (all_own_words plan ∷ []) []) w ≡ false
  last_writes true w = refl
  last_writes false w = refl

  segment_within : (k : ℕ) → StaysWithin plan (OfScript k)
  unfolding touches
  segment_within k =
      let ops = ops_touch (ops_in (segment_at plan k)) in
      let last : List Touch = cond (is_last plan k) (all_own_words plan ∷ []) [] in
      let low = segment_below k (segment_at plan k) refl in
      record {
        read = λ w e. read_below plan.words (ops ++ last) w (below_append plan.words ops last (below_more plan.cells plan.words ops cells_below low)
            (last_below (is_last plan k))) e;
        written = λ w e. ⊎_elim
            (λ l. inl (read_below plan.cells ops w low (writes_read ops w l)))
            (λ r. absurd (not_both r (last_writes (is_last plan k) w)))
            (or_cases (writes_in ops w) (writes_in last w) (sym (writes_append ops last w) ∙ e));
      }

  module _ (j i : ℕ) (x : JobPlan) (hx : job_at plan j ≡ Some x) (lt : i < pieces_of x) where
    abbrev binds_of : List Touch
    binds_of = binds_touch x.parallel (params_in (kernel_of plan x)) x.binds.items (indexes_of x i).start ((indexes_of x i).start + (indexes_of x i).len)

    abbrev own : Touch
    own = record { from = own_word plan j i; end = own_word plan j i + 1; written = true }

    touches_are : touches plan (OfJob j i) ≡ own ∷ binds_of
    unfolding touches
    touches_are = ap (part_touches plan j i) hx

    low : AreBelow plan.cells binds_of
    low =
        let k = has_kernel plan well.jobs j x hx in
        binds_below plan.cells x.parallel (params_in (kernel_of plan x)) x.binds.items (indexes_of x i).start ((indexes_of x i).start + (indexes_of x i).len)
        (λ y b e. (well.jobs.fits j x k.0 hx k.1).within y b e)

    own_below : own_word plan j i + 1 ≤ plan.words
    own_below =
        let all = pieces_within plan.jobs.items j x hx in
        let words = well.sized.words_are in
        omega arith

    part_within : StaysWithin plan (OfJob j i)
    part_within = record {
      read = λ w e. read_below plan.words (own ∷ binds_of) w (own_below, below_more plan.cells plan.words binds_of cells_below low)
          (ap (λ ts. reads_in ts w) (sym touches_are) ∙ e);
      written = λ w e. ⊎_elim
          (λ l. let at = it_has own w l in let le = at.0 in let lt = at.1 in inr (omega arith))
          (λ r. inl (read_below plan.cells binds_of w low (writes_read binds_of w r)))
          (or_cases (has_word own w) (writes_in binds_of w) (ap (λ ts. writes_in ts w) (sym touches_are) ∙ e));
    }

pub pieces_stay_within : PiecesStayWithin
pieces_stay_within plan well (OfScript k) h = segment_within plan well k
pieces_stay_within plan well (OfJob j i) h = part_within plan well j i h.0 h.1 h.2

pub reads_stay_within : ReadsStayWithin
reads_stay_within plan well p w e = elim (cases_lt p (piece_count plan)) [
  | inl lt ↦ (pieces_stay_within plan well (piece_numbered plan p) ((pieces_are_named plan well).numbered p lt).0).read w e
  | inr ge ↦ (segment_within plan well (p - job_pieces plan)).read w (ap (λ x. reads_in (touches plan x) w) (sym (segment_numbered plan p (omega arith))) ∙ e)
]
