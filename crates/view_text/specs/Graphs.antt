-- The text of a picture, in the language of Graphviz.
--
-- Decided here: which bytes stand for a box and for an arrow. Which boxes and arrows a section has isn't decided here,
-- nor what a page shows of them (`Pages`).
use Rattle.std.specs.Prelude.{ℕ, List, [], ◌∷◌, ◌++◌, codes, decimal, string_bytes, String}
use Rattle.std.specs.declared.alloc.Global.{Global}
use Rattle.view_text.specs.declared.escaping.Language.TheVariants.{Dot}
use Rattle.view_text.specs.declared.picture.Kind.{Kind}
use Rattle.view_text.specs.declared.picture.Kind.TheVariants.{Job, Chain, Refused}
use Rattle.view_text.specs.declared.picture.Tie.{Tie}
use Rattle.view_text.specs.declared.picture.Tie.TheVariants.{Depends, DependsOnChain, Completed, CompletedOnChain, Blocks}
use Rattle.view_text.specs.declared.picture.Node.{Node}
use Rattle.view_text.specs.declared.picture.Link.{Link}
use Rattle.view_text.specs.declared.picture.Picture.{Picture}
use Rattle.view_text.specs.Escapes.{escaped}

-- what the name of a box begins with; its number follows
abbrev pub letter : Kind → List ℕ
letter Job = codes "j"
letter Chain = codes "j"
letter Refused = codes "r"

abbrev pub node_style : Kind → List ℕ
node_style Job = codes ""
node_style Chain = codes " penwidth=2.5"
node_style Refused = codes " color=red fontcolor=red style=dashed"

abbrev pub tie_style : Tie → List ℕ
tie_style Depends = codes ""
tie_style DependsOnChain = codes " penwidth=2.5"
tie_style Completed = codes " style=dashed"
tie_style CompletedOnChain = codes " style=dashed penwidth=2.5"
tie_style Blocks = codes " style=dashed color=red fontcolor=red arrowhead=tee"

-- the letter of the box that an arrow leads to
abbrev pub target : Tie → List ℕ
target Blocks = codes "r"
target Depends = codes "j"
target DependsOnChain = codes "j"
target Completed = codes "j"
target CompletedOnChain = codes "j"

-- each line ends with the mark that sets it flush left
abbrev pub lines_text : List (String Global) → List ℕ
lines_text [] = []
lines_text (line ∷ more) = escaped Dot (string_bytes line) ++ (codes "\\l" ++ lines_text more)

abbrev pub node_text : Node → List ℕ
node_text n = codes "  " ++ (letter n.kind ++ (decimal n.number ++ (codes " [label=\"" ++ (lines_text n.lines.items
    ++ (codes "\"" ++ (node_style n.kind ++ codes "]\n"))))))

abbrev pub link_text : Link → List ℕ
link_text k = codes "  j" ++ (decimal k.from ++ (codes " -> " ++ (target k.tie ++ (decimal k.to ++ (codes " [label=\""
    ++ (escaped Dot (string_bytes k.label) ++ (codes "\"" ++ (tie_style k.tie ++ codes "]\n"))))))))

abbrev pub nodes_text : List Node → List ℕ
nodes_text [] = []
nodes_text (n ∷ more) = node_text n ++ nodes_text more

abbrev pub links_text : List Link → List ℕ
links_text [] = []
links_text (k ∷ more) = link_text k ++ links_text more

unfoldable pub head_text : Picture → List ℕ
head_text p = codes "digraph section" ++ (decimal p.number ++ (codes " {\n  label=\""
    ++ (escaped Dot (string_bytes p.head) ++ codes
    "\" labelloc=t\n  node [shape=box fontname=monospace fontsize=11]\n  edge [fontname=monospace fontsize=10]\n")))

-- A graph: a line for each box in their order, and then one for each arrow.
abbrev pub graph_text : Picture → List ℕ
graph_text p = head_text p ++ (nodes_text p.nodes.items ++ (links_text p.links.items ++ codes "}\n"))
