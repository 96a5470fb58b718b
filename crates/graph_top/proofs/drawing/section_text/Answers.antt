use Rattle.graph_top.proofs.drawing.section_text.Goals as goal

pub returns : goal.returns
returns c = record {
  story = c.in_ok-story.story;
  is_story = c.in_ok-story.ensures.story;
  tells_all = c.in_ok-story.ensures.all c.requires.within;
  picture = c.in_ok-picture.picture;
  is_picture = c.in_ok-picture.ensures;
  is_text = c.in_ok-text.ensures;
}
