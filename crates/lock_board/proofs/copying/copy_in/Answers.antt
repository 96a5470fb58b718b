use Rattle.std.proofs.Common.{false, ⊎_elim, get_or, take, refl, sym, ◌∙◌}
use Rattle.std.proofs.lemmas.Bool.{or_cases}
use Rattle.std.proofs.lemmas.Option.{slice_get-get_or}
use Rattle.frame_core.specs.declared.touch.Touch.{Touch}
use Rattle.frame_core.specs.Touches.{has_word, hits}
use Rattle.lock_board.proofs.Spans.{hits_at, hits_next, hits_taken, word_in}
use Rattle.lock_board.proofs.copying.copy_in.Goals as goal

abbrev none : Touch
none = record { from = 0; end = 0; written = false }

pub copy_words_in-requires-clause-words : goal.copy_words_in-requires-clause-words
copy_words_in-requires-clause-words c w lo hi = hits_at false c.args.spans.now c.loop-i.i none w c.loop-i-test.true refl lo hi

pub copy_words_in-requires-clause-within : goal.copy_words_in-requires-clause-within
copy_words_in-requires-clause-within c lt =
    c.requires.within c.loop-i.i (get_or c.args.spans.now c.loop-i.i none) (slice_get-get_or c.args.spans.now c.loop-i.i none c.loop-i-test.true) lt

pub loop-i-preserved : goal.loop-i-preserved
loop-i-preserved c =
    let spans = c.args.spans.now in
    let i = c.loop-i.i in
    let t = get_or spans i none in
    let inv = c.loop-i.invariant in
    record {
      size = c.copy_words_in.auto.room ∙ inv.size;
      done = λ u h. ⊎_elim
          (λ before. c.copy_words_in.ensures.still u (hits_taken false spans i u before) (inv.done u before))
          (λ here. let b = word_in t u here in c.copy_words_in.ensures.inside u b.0 b.1)
          (or_cases (hits false (take i spans) u) (has_word t u) (sym (hits_next false spans i none u c.loop-i-test.true) ∙ h));
    }
