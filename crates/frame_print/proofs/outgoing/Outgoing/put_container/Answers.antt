use Rattle.std.proofs.Common.{refl}
use Rattle.std.specs.Prelude.{codes}
use Rattle.frame_ast.specs.Contents.{elements}
use Rattle.frame_ast.specs.Texts.{contents_text}
use Rattle.frame_print.proofs.Gathering.{gathers_stops, first_stops, second_stops, third_gathers}
use Rattle.frame_print.proofs.outgoing.Outgoing.put_container.Goals as goal

pub returns-in_err-put_name-clause-text : goal.returns-in_err-put_name-clause-text
returns-in_err-put_name-clause-text g c =
    λ contents s. gathers_stops _ _ _ _ _ _ c.from_residual.ensures.0 (first_stops _ _ _ (contents_text (elements contents) contents)
    (codes "\n") _ refl _ c.in_err-put_name.ensures.text)

pub returns-in_err-put_contents-clause-text : goal.returns-in_err-put_contents-clause-text
returns-in_err-put_contents-clause-text g c =
    λ contents s.
    gathers_stops _ _ _ _ _ _ c.from_residual-in_err-put_contents.ensures.0
    (second_stops _ _ _ (contents_text (elements contents) contents) (codes "\n") _ refl _ _ c.in_ok-put_name.ensures.text _
    (rw c.self.view_is at (c.in_err-put_contents.ensures.text contents s)))

pub returns-clause-text : goal.returns-clause-text
returns-clause-text g c =
    λ contents s.
    third_gathers _ _ _ (contents_text (elements contents) contents) (codes "\n") _ refl _ _ c.in_ok-put_name.ensures.text _ _ _ _ c.put_byte.result
    (rw c.self.view_is at (c.in_ok-put_contents.ensures.text contents s)) c.put_byte.ensures.text
