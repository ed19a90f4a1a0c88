-- Ways along edges: turned round, and inside a set that no edge leads out of. Assumes nothing.
use Prim.Native.Nat.{ℕ}
use lib.Dec.{T}
use Rattle.rules.specs.Graph.{Nodes, Edges, Way}
use Rattle.laws.proofs.Graph.{more}
use Rattle.graph.specs.Reach.{Closed}

abbrev pub turned : Edges → Edges
turned e a b = e b a

pub back : {e : Edges} {a b : ℕ} → Way (turned e) a b → Way e b a
back Way.end = Way.end
back (Way.step h w) = more (back w) h

-- a set that no edge leads out of
pub closed_way : {e : Edges} {a b : ℕ} (s : Nodes) → Closed e s → T (s a) → Way e a b → T (s b)
closed_way s cl h Way.end = h
closed_way s cl h (Way.step {a} {b} x w) = closed_way s cl (cl a b h x) w
