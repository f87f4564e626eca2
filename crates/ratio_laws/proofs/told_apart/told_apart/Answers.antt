use Rattle.std.proofs.Common.{refl}
use Rattle.std.specs.Prelude.{◌-◌, ◌^◌}
use Rattle.std.specs.Hash as hash
use Rattle.ratio_laws.proofs.HashWriteLemmas.{byte_tells, bytes_tell, signed_apart, unsigned_apart}
use Rattle.ratio_laws.proofs.told_apart.told_apart.Goals as goal

pub returns-clause-i8 : goal.returns-clause-i8
returns-clause-i8 c = signed_apart (2 ^ 7 - 1) hash.u8 (λ _. refl) _ (λ _. refl) (λ _. refl) (λ n m _ _. byte_tells n m)

pub returns-clause-i16 : goal.returns-clause-i16
returns-clause-i16 c = signed_apart (2 ^ 15 - 1) hash.u16 (λ _. refl) _ (λ _. refl) (λ _. refl) (bytes_tell 1)

pub returns-clause-i32 : goal.returns-clause-i32
returns-clause-i32 c = signed_apart (2 ^ 31 - 1) hash.u32 (λ _. refl) _ (λ _. refl) (λ _. refl) (bytes_tell 3)

pub returns-clause-i64 : goal.returns-clause-i64
returns-clause-i64 c = signed_apart (2 ^ 63 - 1) hash.u64 (λ _. refl) _ (λ _. refl) (λ _. refl) (bytes_tell 7)

pub returns-clause-i128 : goal.returns-clause-i128
returns-clause-i128 c = signed_apart (2 ^ 127 - 1) hash.u128 (λ _. refl) _ (λ _. refl) (λ _. refl) (bytes_tell 15)

pub returns-clause-isize : goal.returns-clause-isize
returns-clause-isize c = signed_apart (2 ^ 63 - 1) hash.usize (λ _. refl) _ (λ _. refl) (λ _. refl) (bytes_tell 7)

pub returns-clause-u8 : goal.returns-clause-u8
returns-clause-u8 c = unsigned_apart (2 ^ 8 - 1) hash.u8 (λ _. refl) (λ n m _ _. byte_tells n m)

pub returns-clause-u16 : goal.returns-clause-u16
returns-clause-u16 c = unsigned_apart (2 ^ 16 - 1) hash.u16 (λ _. refl) (bytes_tell 1)

pub returns-clause-u32 : goal.returns-clause-u32
returns-clause-u32 c = unsigned_apart (2 ^ 32 - 1) hash.u32 (λ _. refl) (bytes_tell 3)

pub returns-clause-u64 : goal.returns-clause-u64
returns-clause-u64 c = unsigned_apart (2 ^ 64 - 1) hash.u64 (λ _. refl) (bytes_tell 7)

pub returns-clause-u128 : goal.returns-clause-u128
returns-clause-u128 c = unsigned_apart (2 ^ 128 - 1) hash.u128 (λ _. refl) (bytes_tell 15)

pub returns-clause-usize : goal.returns-clause-usize
returns-clause-usize c = unsigned_apart (2 ^ 64 - 1) hash.usize (λ _. refl) (bytes_tell 7)
