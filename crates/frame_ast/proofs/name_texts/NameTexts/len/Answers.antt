use Rattle.std.proofs.Common.{rules, ◌≡◌, ap, sym, ◌∙◌, length}
use Rattle.frame_ast.proofs.JoinedTexts.{how_many}
use Rattle.frame_ast.proofs.name_texts.NameTexts.len.Goals as goal

pub returns : goal.returns
returns c =
    let inside = c.self.inside in
    let counted : c.len.result ≡ length inside.ends.items = search rules in
    counted ∙ sym (how_many 0 inside.bytes.items inside.ends.items) ∙ ap length c.self.view_is
