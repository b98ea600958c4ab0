-- The number of entries of a list, the pairs of two lists, and the list as a part of the body. Assumes nothing.
use Prim.Native.Nat.{ℕ, ◌+◌, ◌*◌, ◌-◌, ◌<◌, ◌≤◌}
use native.Mathlib.Nat.{mul-le-mul}
use native.Mathlib.Omega.{arith}
use mathlib.Core.Path.{◌≡◌, ◌∙◌}
use lib.ListN.{length, take, drop, length-map}
use Rattle.model.specs.Lists.{up_to}
use Rattle.model.specs.Bytes.{Bytes, cut}
use Rattle.model.specs.Oracle.{list_size, list_start, list_count, list_part, access_entry, access_list}
use Rattle.theory.specs.RangeLaws.{length-range}

pub length_list : (b : Bytes) (u : ℕ) → length (access_list b u) ≡ list_count b u
unfolding access_list
length_list b u = length-map (up_to (list_count b u)) (access_entry b u) ∙ length-range 0 (list_count b u)

-- The product of two numbers of 16 bits has 32.
pub product_fits : (m n : ℕ) → m < 65536 → n < 65536 → m * n < 4294967296
product_fits m n p q =
    let h : m * n ≤ 65535 * 65535 = mul-le-mul {n₁ = m} {m₁ = n} {n₂ = 65535} {m₂ = 65535} (omega arith) (omega arith) in
    omega arith

-- The bytes from a list's start to its end.
pub part_between : (b : Bytes) (u start end : ℕ) → start ≡ list_start b u → end ≡ start + list_size (list_count b u)
    → take (end - start) (drop start b) ≡ cut (list_part b u) b
unfolding cut list_part
part_between b u start end p q =
    let size : end - start ≡ list_size (list_count b u) = omega arith in
    rw (size, p)
