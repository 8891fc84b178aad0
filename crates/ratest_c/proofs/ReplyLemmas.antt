-- What the result of the export says of a reply.
use Rattle.std.proofs.Common.{◌≡◌, ℕ, suc, ◌<◌, ◌≤◌, ℤ, pos, neg_ℤ, List, ◌++◌, length, take, drop, ap, sym, subst, inl, inr, arith}
use Rattle.std.proofs.lemmas.Bool.{cases_lt}
use Rattle.ratest_c.specs.Answers.{IsReply, Says}

put_there : (asked old new bytes : List ℕ) → IsReply asked bytes → length bytes ≤ length old → take (length bytes) new ≡ bytes
    → drop (length bytes) new ≡ drop (length bytes) old → Says asked old new (pos (length bytes))
put_there asked old new bytes reply room front behind = (room, subst (λ bs. IsReply asked bs) (sym front) reply, behind)

-- a reply has five bytes at least, so its length is none of the two numbers that say something else
wanted : (asked old new bytes : List ℕ) → IsReply asked bytes → length old < length bytes → new ≡ old → Says asked old new (neg_ℤ (pos (length bytes)))
wanted asked old new bytes reply wants kept =
    let n : ℕ = suc (suc (length (reply.out ++ reply.err))) in
    let size : length bytes ≡ suc (suc (suc n)) = ap length reply.frame in
    let made : Says asked old new (neg_ℤ (pos (suc (suc (suc n))))) = (bytes, reply, omega (arith, size), omega (arith, size, wants), kept) in
    subst (λ k. Says asked old new (neg_ℤ (pos k))) (sym size) made

pub put_says : (asked old new bytes : List ℕ) (z : ℤ) → IsReply asked bytes
    → (length bytes ≤ length old → z ≡ pos (length bytes))
    → (length bytes ≤ length old → take (length bytes) new ≡ bytes)
    → (length bytes ≤ length old → drop (length bytes) new ≡ drop (length bytes) old)
    → (length old < length bytes → z ≡ neg_ℤ (pos (length bytes)))
    → (length old < length bytes → new ≡ old) → Says asked old new z
put_says asked old new bytes z reply fits front behind wants kept = elim (cases_lt (length old) (length bytes)) [
  | inl lt ↦ subst (λ k. Says asked old new k) (sym (wants lt)) (wanted asked old new bytes reply lt (kept lt))
  | inr le ↦ subst (λ k. Says asked old new k) (sym (fits le)) (put_there asked old new bytes reply le (front le) (behind le))
]
