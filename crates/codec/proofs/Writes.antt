-- Bytes written over others are a splice. Assumes nothing.
use Rattle.std.proofs.Common.{◌≡◌, ℕ, ◌+◌, ◌-◌, ◌/◌, ◌%◌, ◌≤◌, [], ◌∷◌, ◌++◌, length, take, drop, arith, ap, append_assoc}
use lib.Seq.{drop-drop}
use borrow.Rule.Slice.PartMut.{put_mid}
use Rattle.model.specs.Bytes.{Bytes, bytes16, bytes32, bytes64, splice}
use Rattle.theory.specs.FileLaws.{bytes_low, length_32}
use Rattle.model.specs.Pair.{seconds_of, hops_of}
use Rattle.model.specs.Oracle.{seconds_size, value_size, value_bytes, decoded}
use Rattle.theory.specs.Splices.{splice_then}
use Rattle.theory.specs.ReadLaws.{value_bytes_law}

-- The bytes ys, put in the place of as many from i on.
pub put_bytes : (b : Bytes) (i n : ℕ) (xs ys : Bytes) → xs ≡ ys → length ys ≡ n → put_mid i (i + n - i) b xs ≡ splice i ys b
unfolding splice
put_bytes b i n xs ys e h =
    let size : i + n - i ≡ n = omega arith in
    let past : i + length ys ≡ i + n = omega arith in
    rw (size, e, past, append_assoc (take i b) ys (drop (i + n) b)) (ap (λ l. take i b ++ (ys ++ l)) (drop-drop n i b))

-- The bytes of a number as it is divided by their worth at once.
pub bytes_16 : (x : ℕ) → (x % 65536) % 256 ∷ (x % 65536) / 256 % 256 ∷ [] ≡ bytes16 x
unfolding bytes16
bytes_16 x =
    let low : (x % 65536) % 256 ≡ x % 256 = omega arith in
    let high : (x % 65536) / 256 % 256 ≡ x / 256 % 256 = omega arith in
    rw (low, high)

pub bytes_32 : (x : ℕ) → x % 256 ∷ x / 256 % 256 ∷ x / 65536 % 256 ∷ x / 16777216 % 256 ∷ [] ≡ bytes32 x
unfolding bytes32 bytes16
bytes_32 x = let e : x / 16777216 % 256 ≡ x / 65536 / 256 % 256 = omega arith in rw e

pub bytes_64 : (x : ℕ) → x % 256 ∷ x / 256 % 256 ∷ x / 65536 % 256 ∷ x / 16777216 % 256 ∷ x / 4294967296 % 256 ∷ x / 1099511627776 % 256
    ∷ x / 281474976710656 % 256 ∷ x / 72057594037927936 % 256 ∷ [] ≡ bytes64 x
unfolding bytes64 bytes32 bytes16
bytes_64 x =
    let three : x / 16777216 % 256 ≡ x / 65536 / 256 % 256 = omega arith in
    let five : x / 1099511627776 % 256 ≡ x / 4294967296 / 256 % 256 = omega arith in
    let six : x / 281474976710656 % 256 ≡ x / 4294967296 / 65536 % 256 = omega arith in
    let seven : x / 72057594037927936 % 256 ≡ x / 4294967296 / 65536 / 256 % 256 = omega arith in
    rw (three, five, six, seven)

-- Seconds, and hops behind them.
pub write_value : (b : Bytes) (i x : ℕ) → i + value_size ≤ length b
    → splice (i + seconds_size) (bytes16 (hops_of x)) (splice i (bytes32 (seconds_of x % 4294967296)) b) ≡ splice i (value_bytes (decoded x)) b
write_value b i x h =
    let s = seconds_of x in
    let e : i + seconds_size ≡ i + length (bytes32 s) = omega (arith, length_32 s) in
    rw (value_bytes_law x, bytes_low s, e) (splice_then b i (bytes32 s) (omega (arith, length_32 s)) (bytes16 (hops_of x)))
