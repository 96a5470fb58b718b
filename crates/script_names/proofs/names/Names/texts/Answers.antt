use Rattle.std.proofs.Common.{rules, ◌≡◌, ◌<◌, ◌≤◌, map, length}
use Rattle.script_names.specs.Index.{known_of}
use Rattle.script_names.proofs.TextLemmas.{is_text, all_texts}
use Rattle.script_names.proofs.names.Names.texts.Goals as goal

pub text_of-requires : goal.text_of-requires
text_of-requires c =
    let entries = c.deref-entry-items.result.now in
    let is : c.args.self.now ≡ map known_of entries = search rules in
    let within : c.loop-entry.entry-index < length entries = search rules in
    is_text entries c.args.self.now c.loop-entry.entry-index _ is within c.requires

pub returns : goal.returns
returns c =
    let entries = c.deref-entry-items.result.now in
    let is : c.args.self.now ≡ map known_of entries = search rules in
    let past : length entries ≤ c.loop-entry.entry-index = search rules in
    all_texts entries c.args.self.now c.loop-entry.entry-index _ is past c.loop-entry.invariant
