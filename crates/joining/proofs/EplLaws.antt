-- The line `N` between two files stands before anything, clears wherever it is read and is no block (`clearing`); so
-- the joined text has the labels and the blocks of both (`epl_joins`). Assumes nothing.
use mathlib.Core.Path.{refl}
use mathlib.Core.List.{List, [], ◌∷◌}
use Prim.Native.Nat.{ℕ}
use Rattle.frame_bytes.specs.Frame.{frame_of}
use Rattle.frame_bytes.proofs.FrameLaws.{frame_local}
use Rattle.graphics.specs.Block.{opens_gw, gw_span}
use Rattle.command_letters.specs.Command.{command_of}
use Rattle.commands.specs.Line.{read_line}
use Rattle.walk_theory.specs.Claims.{Local}
use Rattle.walk_theory.specs.Join.{Clearing, Joins}
use Rattle.walk_theory.specs.Labels.{Divides}
use Rattle.walk_theory.proofs.Join.{joins}
use Rattle.grammar.specs.WellFormed.{well_formed}
use Rattle.grammar.specs.Found.{first}
use Rattle.grammar.specs.Epl.{epl, origin}
use Rattle.grammar.specs.Normal.{blocks, normal, normalised}
use Rattle.grammar.proofs.FoundLaws.{reads}
use Rattle.grammar.proofs.Normalises.{normalises}
use Rattle.grammar.proofs.EplLaws.{inside}
use Rattle.file_listing.specs.Listing.{FramedLabel}
use Rattle.joining.specs.Join.{clear_line}

pub clearing : Clearing epl blocks origin clear_line
unfolding opens_gw gw_span command_of read_line well_formed first
clearing = record { stands = λ rest. (reads.sound (78 ∷ 10 ∷ []) clear_line [] refl).1; clears = λ r. refl; no_block = refl }

-- a frame looks only at the bytes of its own unit, wherever they stand
local : Local epl (List ℕ) frame_of
local r u e h pre post = frame_local pre (epl.bytes u) post e (inside r u e h)

pub epl_joins : (s t : List ℕ) (ls ms : List FramedLabel) (m k : ℕ) → Divides epl (List ℕ) frame_of s origin ls m → Divides epl (List ℕ) frame_of t origin ms k
    → Joins epl (List ℕ) frame_of normalised clear_line origin blocks s t ls ms k
epl_joins = joins epl reads (List ℕ) frame_of local normalised blocks normal (normalises (List ℕ) frame_of frame_local) origin clear_line clearing
