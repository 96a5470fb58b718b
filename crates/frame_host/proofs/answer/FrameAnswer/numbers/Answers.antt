use Rattle.std.proofs.Common.{ap, length, subst, sym, ◌∙◌, Some, arith}
use Rattle.std.specs.Prelude.{option_copied}
use Rattle.job_base.specs.Cells.{cells_of}
use Rattle.frame_ast.specs.States.{contents_at}
use Rattle.kernel_exec.specs.Layout.{Holds}
use Rattle.frame_host.specs.Reading.{place_named}
use Rattle.frame_host.proofs.Numbering.{final_of, is_bound, no_bind, read_there}
use Rattle.frame_host.proofs.answer.FrameAnswer.numbers.Goals as goal

pub returns-in_err-bind : goal.returns-in_err-bind
returns-in_err-bind c =
    ap option_copied c.from_residual-in_err-bind.ensures
    ∙ sym (no_bind c.args.self.now c.requires.sound c.args.name.now c.in_ok-place.place
    (ap (λ t. place_named t c.args.name.now) (sym c.deref.ensures) ∙ sym c.place_of.ensures ∙ c.in_ok-place.was)
    (sym c.bind.ensures ∙ c.in_err-bind.was))

pub words_of-requires-clause-holds : goal.words_of-requires-clause-holds
words_of-requires-clause-holds c =
    let at = is_bound c.args.self.now c.requires.sound c.args.name.now c.in_ok-place.place
    (ap (λ t. place_named t c.args.name.now) (sym c.deref.ensures) ∙ sym c.place_of.ensures ∙ c.in_ok-place.was)
    (Some c.in_ok-bind.bind) (sym c.bind.ensures ∙ c.in_ok-bind.was) in (
      at.1.0,
      contents_at (final_of c.args.self.now) c.in_ok-place.place,
      at.1.1,
      subst (λ xs. Holds (cells_of xs) c.in_ok-bind.bind (contents_at (final_of c.args.self.now) c.in_ok-place.place)) (sym c.deref-2.ensures.value) at.2,
    )

pub words_of-requires-clause-within : goal.words_of-requires-clause-within
words_of-requires-clause-within c =
    let at = is_bound c.args.self.now c.requires.sound c.args.name.now c.in_ok-place.place
    (ap (λ t. place_named t c.args.name.now) (sym c.deref.ensures) ∙ sym c.place_of.ensures ∙ c.in_ok-place.was)
    (Some c.in_ok-bind.bind) (sym c.bind.ensures ∙ c.in_ok-bind.was) in
    let inside = at.3 in
    let same = ap (λ xs. length xs) c.deref-2.ensures.value in
    omega arith

pub returns : goal.returns
returns c =
    read_there c.args.self.now c.requires.sound c.args.name.now c.in_ok-place.place
    (ap (λ t. place_named t c.args.name.now) (sym c.deref.ensures) ∙ sym c.place_of.ensures ∙ c.in_ok-place.was)
    c.in_ok-bind.bind (sym c.bind.ensures ∙ c.in_ok-bind.was) (option_copied c.words_of.result)
    (λ held h. c.words_of.ensures held (subst (λ xs. Holds (cells_of xs) c.in_ok-bind.bind held) (sym c.deref-2.ensures.value) h))
