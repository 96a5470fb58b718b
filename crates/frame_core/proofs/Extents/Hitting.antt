-- Words that touches have, element by element.
use Rattle.std.proofs.Common.{◌≡◌, ℕ, zero, suc, ◌+◌, ◌<◌, ◌≤◌, Bool, true, false, ◌&&◌, ◌||◌, List, [], ◌∷◌, ◌++◌, length, drop, refl, sym, ap, ◌∙◌, arith, All}
use Rattle.std.specs.Prelude.{slice_index_or}
use Rattle.std.proofs.lemmas.List.Elements.{All-head, All-tail}
use Rattle.std.proofs.lemmas.Bool.{or_left, or_right}
use Rattle.frame_core.proofs.Extents.Touching.{reads_append, writes_append}
use Rattle.frame_ast.specs.declared.kernel.Param.{Param}
use Rattle.kernel_exec.specs.declared.binds.Bind.{Bind}
use Rattle.frame_core.specs.declared.plan.Op.{Op}
use Rattle.frame_core.specs.declared.plan.Plan.{Plan}
use Rattle.frame_core.specs.Ordered.{OpFits}
use Rattle.frame_core.specs.declared.touch.Touch.{Touch}
use Rattle.frame_core.specs.Touches.{has_word, reads_in, writes_in, counts, hits, through, binds_touch, act_touches, ops_touch}

pub hits_append : (only : Bool) (xs ys : List Touch) (w : ℕ) → hits only (xs ++ ys) w ≡ (hits only xs w || hits only ys w)
hits_append only [] ys w = refl
hits_append only (t ∷ xs) ys w = ap (λ b. (counts only t && has_word t w) || b) (hits_append only xs ys w)
    ∙ assoc (counts only t && has_word t w) (hits only xs w) (hits only ys w)
  where
    assoc : (a b c : Bool) → (a || (b || c)) ≡ ((a || b) || c)
    assoc true b c = refl
    assoc false b c = refl

pub hits_write : (ts : List Touch) (w : ℕ) → hits true ts w ≡ writes_in ts w
hits_write [] w = refl
hits_write (t ∷ ts) w = ap (λ b. (t.written && has_word t w) || b) (hits_write ts w)

pub hits_read : (ts : List Touch) (w : ℕ) → hits false ts w ≡ reads_in ts w
hits_read [] w = refl
hits_read (t ∷ ts) w = ap (λ b. has_word t w || b) (hits_read ts w)

-- one element, and the rest

module _ (only : Bool) (w : ℕ) where
  ops_step : (ops : List Op) (i : ℕ) (d : Op) → i < length ops → hits only (ops_touch (drop i ops)) w ≡
      (hits only (act_touches (slice_index_or ops i d).act) w || hits only (ops_touch (drop (suc i) ops)) w)
  ops_step [] i d lt = absurd (omega arith)
  ops_step (op ∷ more) zero d lt = hits_append only (act_touches op.act) (ops_touch more) w
  ops_step (op ∷ more) (suc i) d lt = ops_step more i d (omega arith)

  pub ops_hit : (ops : List Op) (i : ℕ) (d : Op) → i < length ops → hits only (ops_touch (drop i ops)) w ≡ hits only (ops_touch ops) w
      → true ≡ hits only (act_touches (slice_index_or ops i d).act) w → true ≡ hits only (ops_touch ops) w
  ops_hit ops i d lt inv e = ap (λ b. b || hits only (ops_touch (drop (suc i) ops)) w) e ∙ sym (ops_step ops i d lt) ∙ inv

  pub ops_miss : (ops : List Op) (i : ℕ) (d : Op) → i < length ops → hits only (ops_touch (drop i ops)) w ≡ hits only (ops_touch ops) w
      → false ≡ hits only (act_touches (slice_index_or ops i d).act) w
      → hits only (ops_touch (drop (i + 1) ops)) w ≡ hits only (ops_touch ops) w
  ops_miss ops i d lt inv e =
      let up : i + 1 ≡ suc i = omega arith in
      ap (λ n. hits only (ops_touch (drop n ops)) w) up ∙ ap (λ b. b || hits only (ops_touch (drop (suc i) ops)) w) e ∙ sym (ops_step ops i d lt) ∙ inv

  ops_none : (ops : List Op) (i : ℕ) → length ops ≤ i → hits only (ops_touch (drop i ops)) w ≡ false
  ops_none [] zero le = refl
  ops_none [] (suc i) le = refl
  ops_none (op ∷ more) zero le = absurd (omega arith)
  ops_none (op ∷ more) (suc i) le = ops_none more i (omega arith)

  pub ops_end : (ops : List Op) (i : ℕ) → length ops ≤ i → hits only (ops_touch (drop i ops)) w ≡ hits only (ops_touch ops) w
      → false ≡ hits only (ops_touch ops) w
  ops_end ops i le inv = sym (ops_none ops i le) ∙ inv

  module _ (parallel : Bool) (from to : ℕ) where
    binds_step : (ps : List Param) (bs : List Bind) (i : ℕ) (p : Param) (b : Bind) → i < length ps → i < length bs
        → hits only (binds_touch parallel (drop i ps) (drop i bs) from to) w
        ≡ (hits only (through parallel (slice_index_or ps i p) (slice_index_or bs i b) from to) w
        || hits only (binds_touch parallel (drop (suc i) ps) (drop (suc i) bs) from to) w)
    binds_step [] bs i p b lp lb = absurd (omega arith)
    binds_step (q ∷ ps) [] i p b lp lb = absurd (omega arith)
    binds_step (q ∷ ps) (c ∷ bs) zero p b lp lb = hits_append only (through parallel q c from to) (binds_touch parallel ps bs from to) w
    binds_step (q ∷ ps) (c ∷ bs) (suc i) p b lp lb = binds_step ps bs i p b (omega arith) (omega arith)

    module _ (ps : List Param) (bs : List Bind) (i : ℕ) (count : length bs ≡ length ps)
        (inv : hits only (binds_touch parallel (drop i ps) (drop i bs) from to) w ≡ hits only (binds_touch parallel ps bs from to) w) where
      pub binds_hit : (q p : Param) (b : Bind) → i < length bs → q ≡ slice_index_or ps i p
          → true ≡ hits only (through parallel q (slice_index_or bs i b) from to) w → true ≡ hits only (binds_touch parallel ps bs from to) w
      binds_hit q p b lt is e =
          let more = hits only (binds_touch parallel (drop (suc i) ps) (drop (suc i) bs) from to) w in
          ap (λ x. x || more) (e ∙ ap (λ x. hits only (through parallel x (slice_index_or bs i b) from to) w) is)
          ∙ (sym (binds_step ps bs i p b (omega arith) lt) ∙ inv)

      pub binds_miss : (q p : Param) (b : Bind) → i < length bs → q ≡ slice_index_or ps i p
          → false ≡ hits only (through parallel q (slice_index_or bs i b) from to) w
          → hits only (binds_touch parallel (drop (i + 1) ps) (drop (i + 1) bs) from to) w ≡ hits only (binds_touch parallel ps bs from to) w
      binds_miss q p b lt is e =
          let up : i + 1 ≡ suc i = omega arith in
          ap (λ n. hits only (binds_touch parallel (drop n ps) (drop n bs) from to) w) up
          ∙ (ap (λ x. x || hits only (binds_touch parallel (drop (suc i) ps) (drop (suc i) bs) from to) w)
          (e ∙ ap (λ x. hits only (through parallel x (slice_index_or bs i b) from to) w) is)
          ∙ (sym (binds_step ps bs i p b (omega arith) lt) ∙ inv))

    binds_none : (ps : List Param) (bs : List Bind) (i : ℕ) → length bs ≡ length ps → length bs ≤ i
        → hits only (binds_touch parallel (drop i ps) (drop i bs) from to) w ≡ false
    binds_none [] [] zero c le = refl
    binds_none [] [] (suc i) c le = refl
    binds_none (p ∷ ps) [] i c le = absurd (omega arith)
    binds_none [] (b ∷ bs) i c le = absurd (omega arith)
    binds_none (p ∷ ps) (b ∷ bs) zero c le = absurd (omega arith)
    binds_none (p ∷ ps) (b ∷ bs) (suc i) c le = binds_none ps bs i (omega arith) (omega arith)

    pub binds_end : (ps : List Param) (bs : List Bind) (i : ℕ) → length bs ≡ length ps → length bs ≤ i
        → hits only (binds_touch parallel (drop i ps) (drop i bs) from to) w ≡ hits only (binds_touch parallel ps bs from to) w
        → false ≡ hits only (binds_touch parallel ps bs from to) w
    binds_end ps bs i c le inv = sym (binds_none ps bs i c le) ∙ inv

-- an operation of some that fit
pub fits_at : (plan : Plan) (ops : List Op) (i : ℕ) (d : Op) → All (OpFits plan) ops → i < length ops → OpFits plan (slice_index_or ops i d)
fits_at plan [] i d h lt = absurd (omega arith)
fits_at plan (op ∷ more) zero d h lt = All-head (OpFits plan) op more h
fits_at plan (op ∷ more) (suc i) d h lt = fits_at plan more i d (All-tail (OpFits plan) op more h) (omega arith)

-- what one of some operations touches they touch together

pub op_reads : (ops : List Op) (i : ℕ) (d : Op) (w : ℕ) → i < length ops → reads_in (act_touches (slice_index_or ops i d).act) w ≡ true
    → reads_in (ops_touch ops) w ≡ true
op_reads [] i d w lt e = absurd (omega arith)
op_reads (op ∷ more) zero d w lt e = reads_append (act_touches op.act) (ops_touch more) w
    ∙ or_left (reads_in (act_touches op.act) w) (reads_in (ops_touch more) w) e
op_reads (op ∷ more) (suc i) d w lt e = reads_append (act_touches op.act) (ops_touch more) w
    ∙ or_right (reads_in (act_touches op.act) w) (reads_in (ops_touch more) w) (op_reads more i d w (omega arith) e)

pub op_writes : (ops : List Op) (i : ℕ) (d : Op) (w : ℕ) → i < length ops → writes_in (act_touches (slice_index_or ops i d).act) w ≡ true
    → writes_in (ops_touch ops) w ≡ true
op_writes [] i d w lt e = absurd (omega arith)
op_writes (op ∷ more) zero d w lt e = writes_append (act_touches op.act) (ops_touch more) w
    ∙ or_left (writes_in (act_touches op.act) w) (writes_in (ops_touch more) w) e
op_writes (op ∷ more) (suc i) d w lt e = writes_append (act_touches op.act) (ops_touch more) w
    ∙ or_right (writes_in (act_touches op.act) w) (writes_in (ops_touch more) w) (op_writes more i d w (omega arith) e)
