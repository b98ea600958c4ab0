-- `emit::bytes::value_bytes` meets its contract: the seconds, and then the hops. Assumes nothing.
use Prim.Native.Nat.{ℕ, ◌/◌, ◌%◌}
use mathlib.Core.Path.{◌≡◌, sym}
use mathlib.Core.List.{◌++◌}
use Rattle.model.specs.Bytes.{bytes16, bytes32}
use Rattle.model.specs.Oracle.{value_bytes, decoded}
use Rattle.model.specs.Pair.{hop_base, hops_of}
use Rattle.theory.specs.FileLaws.{bytes_low}
use Rattle.theory.specs.ReadLaws.{value_bytes_law}
use Rattle.emit.proofs.bytes.value_bytes.Goals as goal

in_parts : (x : ℕ) → bytes32 (x / hop_base % 4294967296) ++ bytes16 (hops_of x) ≡ value_bytes (decoded x)
in_parts x = rw (bytes_low (x / hop_base)) (sym (value_bytes_law x))

pub returns : goal.returns
unfolding bytes32 bytes16
returns c = rw (c.number_bytes.ensures, c.number_bytes-2.ensures, c.number_bytes-3.ensures, c.hops_of.ensures.0) (in_parts c.args.x)
