use Rattle.std.proofs.Common.{inl, inr, ⊎_elim, arith}
use Rattle.frame_top.proofs.texts.refuse_source.Goals as goal

pub returns-in-Syntax : goal.returns-in-Syntax
returns-in-Syntax g c = record {
  fault = λ other. c.refuse_script.ensures.said;
  many = λ e. let is = c.in-Syntax.is in grind (arith, is, e);
  status = ⊎_elim (λ e. inl e) (λ e. inr (inr e)) c.refuse_script.ensures.status;
  later = c.refuse_script.ensures.later;
}
