use Rattle.std.proofs.Common.{ℕ, ◌<◌, ◌+◌, ◌^◌, ◌-◌, ◌≡◌, List, length, take, drop, take_all, length-take, length-drop, refl, sym, ◌∙◌, ap, subst, arith}
use Rattle.std.proofs.lemmas.List.{length-map, drop-map}
use Rattle.frame_parser.specs.declared.note.Note.{Note}
use Rattle.frame_parser.specs.Notes.{event_of, events_of}
use Rattle.kernel_text.specs.declared.mark.Mark.{Mark}
use Rattle.kernel_text.specs.Marks.{tokens_in}
use Rattle.kernel_raw.specs.Edges.{AreKeptOf}
use Rattle.kernel_raw.specs.RawEvents.{IsKernel}
use Rattle.kernel_raw.specs.Reading.{run, nothing_read, is_parallel}
use Rattle.kernel_raw.specs.Keeping.{kept_of, TakesFirst}
use Rattle.kernel_raw.proofs.Reading.Keeping.{Keeps}
use Rattle.kernel_raw.proofs.Reading.KeepingSteps.{keeps-nothing}
use Rattle.kernel_raw.proofs.Reading.FirstEvents.{has-space, taken-keeps}
use Rattle.kernel_raw.proofs.Derived.NameTexts.{parsed}
use Rattle.kernel_text.proofs.Marks.{length-tokens_in}
use Rattle.kernel_raw.proofs.Reading.Noted.{parts_noted, noted_few, noted_kept, made_of}
use Rattle.kernel_raw.proofs.kernel.raw_kernel.Goals as goal

few_tokens : (source : List ℕ) (line : ℕ) (marks : List Mark) → line + length marks < 2 ^ 32 → length (tokens_in source line marks) < 2 ^ 32
few_tokens source line marks few = omega (arith, few, length-tokens_in source line marks)

-- how many nodes there are when so many events have been taken
few_at : (notes : List Note) (source : List ℕ) (line : ℕ) (marks : List Mark) (k : IsKernel (events_of notes) (length (tokens_in source line marks)))
    → line + length marks < 2 ^ 32 → (i : ℕ) →
    length (run nothing_read (take i (events_of (parts_noted notes)))).nodes < 2 ^ 32
few_at notes source line marks k few i = noted_few notes _ k (few_tokens source line marks few) i

pub loop-at-init : goal.loop-at-init
loop-at-init c = record { within = omega arith; keeps = subst (λ k. Keeps k nothing_read) (sym c.in_ok-reader.ensures) keeps-nothing }

pub take_first-requires-clause-some : goal.take_first-requires-clause-some
take_first-requires-clause-some c =
    let parts = parts_noted c.args.notes.now in
    omega (arith, length-take (length parts - c.loop-at.at) (drop c.loop-at.at parts), length-drop c.loop-at.at parts, c.loop-at-test.true)

pub take_first-requires-clause-space : goal.take_first-requires-clause-space
take_first-requires-clause-space c =
    has-space (kept_of c.loop-at.reader) _ c.loop-at.invariant.keeps (few_at c.args.notes.now c.args.source.now c.args.line c.args.marks.now c.requires.kernel
    c.requires.few c.loop-at.at)

pub loop-at-preserved : goal.loop-at-preserved
loop-at-preserved c =
    let parts = parts_noted c.args.notes.now in
    let at = c.loop-at.at in
    let n = c.in_ok-at.field-0 in
    let rest : take (length parts - at) (drop at parts) ≡ drop at parts = take_all (length parts - at) (drop at parts) (omega (arith, length-drop at parts)) in
    let taken : TakesFirst n (drop at (events_of parts)) (kept_of c.loop-at.reader) (kept_of c.take_first.new.reader) =
    subst (λ es. TakesFirst n es (kept_of c.loop-at.reader) (kept_of c.take_first.new.reader))
    (ap events_of rest ∙ sym (drop-map event_of at parts)) c.in_ok-at.ensures in
    record {
      within = omega (arith, taken.within, length-drop at (events_of parts), length-map parts event_of, c.loop-at-test.true);
      keeps = taken-keeps (events_of parts) nothing_read at n (kept_of c.loop-at.reader) (kept_of c.take_first.new.reader) c.loop-at.invariant.keeps taken;
    }

pub kept_depths-requires : goal.kept_depths-requires
kept_depths-requires c =
    let notes = c.args.notes.now in
    let s = run nothing_read (take c.loop-at.at (events_of (parts_noted notes))) in
    let kept = kept_of c.loop-at.reader in
    let are = noted_kept notes _ c.requires.kernel kept c.loop-at.at (few_tokens c.args.source.now c.args.line c.args.marks.now c.requires.few)
    (omega (arith, c.loop-at-test.false)) c.loop-at.invariant.keeps in
    (s.nodes, subst (λ ns. AreKeptOf s.nodes ns kept.joined) (sym c.deref.ensures.value) are)

pub returns-clause-spelled : goal.returns-clause-spelled
returns-clause-spelled c =
    let notes = c.args.notes.now in
    let kept = kept_of c.loop-at.reader in
    let made = made_of notes _ c.requires.kernel kept c.loop-at.at _ _ (few_tokens c.args.source.now c.args.line c.args.marks.now c.requires.few)
    (omega (arith, c.loop-at-test.false)) c.loop-at.invariant.keeps refl
    (c.is_parallel.ensures ∙ ap (λ e. is_parallel e.action) c.event.ensures) (ap (λ e. e.place) c.event-2.ensures) refl refl
    (λ all are. c.in_ok-depths.ensures all (subst (λ ns. AreKeptOf all ns kept.joined) (sym c.deref.ensures.value) are)) in
    made.spells

pub returns-clause-parsed : goal.returns-clause-parsed
returns-clause-parsed c =
    let notes = c.args.notes.now in
    let kept = kept_of c.loop-at.reader in
    let made = made_of notes _ c.requires.kernel kept c.loop-at.at _ _ (few_tokens c.args.source.now c.args.line c.args.marks.now c.requires.few)
    (omega (arith, c.loop-at-test.false)) c.loop-at.invariant.keeps refl
    (c.is_parallel.ensures ∙ ap (λ e. is_parallel e.action) c.event.ensures) (ap (λ e. e.place) c.event-2.ensures) refl refl
    (λ all are. c.in_ok-depths.ensures all (subst (λ ns. AreKeptOf all ns kept.joined) (sym c.deref.ensures.value) are)) in
    parsed c.args.source.now (tokens_in c.args.source.now c.args.line c.args.marks.now)
    (events_of notes) _ refl refl made.spells made.within c.requires.text c.requires.named c.requires.few
