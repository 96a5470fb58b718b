use Rattle.std.proofs.Common.{◌≤◌, false, get_or, length, refl, sym, ap, subst, ◌∙◌}
use Rattle.std.proofs.lemmas.Option.{slice_get-get_or}
use Rattle.job_base.specs.Cells.{cells_of}
use Rattle.frame_core.specs.declared.touch.Touch.{Touch}
use Rattle.lock_board.proofs.Spans.{copied_out, hits_at, not_copied}
use Rattle.lock_board.proofs.copying.copy_out.Goals.{then-spans-i, else-spans-i}
use Rattle.lock_board.proofs.copying.copy_out.Goals as goal

abbrev none : Touch
none = record { from = 0; end = 0; written = false }

pub copy_words_out-requires-clause-words : goal.copy_words_out-requires-clause-words
copy_words_out-requires-clause-words c w lo hi = hits_at false c.args.spans.now c.loop-i.i none w c.loop-i-test.true refl lo hi

pub copy_words_out-requires-clause-within : goal.copy_words_out-requires-clause-within
copy_words_out-requires-clause-within c lt =
    let le = c.requires.within c.loop-i.i (get_or c.args.spans.now c.loop-i.i none) (slice_get-get_or c.args.spans.now c.loop-i.i none c.loop-i-test.true) lt in
    subst (λ n. (get_or c.args.spans.now c.loop-i.i none).end ≤ n) (sym c.loop-i.invariant.size) le

pub loop-i-preserved : goal.loop-i-preserved
loop-i-preserved c =
    let spans = c.args.spans.now in
    let room = c.args.room.now in
    let old = c.args.cells.now in
    let now = c.loop-i.cells in
    let inv = c.loop-i.invariant in
    elim c.if-spans-i.branch [
      | then-spans-i w ↦ record {
        size = ap (λ l. length l) w.cells-is ∙ (w.copy_words_out.auto.cells ∙ inv.size);
        done = λ u. ap (λ l. cells_of l u) w.cells-is
            ∙ copied_out spans room old now c.loop-i.i none c.loop-i-test.true inv.done w.copy_words_out.new.cells w.if-spans-i.true
            w.copy_words_out.ensures.inside w.copy_words_out.ensures.before w.copy_words_out.ensures.behind u;
      }
      | else-spans-i w ↦ record {
        size = ap (λ l. length l) w.cells-is ∙ inv.size;
        done = λ u. ap (λ l. cells_of l u) w.cells-is ∙ not_copied spans room old now c.loop-i.i none c.loop-i-test.true inv.done w.if-spans-i.false u;
      }
    ]
