-- Which line of a text is the first that no certificate has there.
use Rattle.std.specs.Prelude.{◌≡◌, ◌≢◌, ℕ, ◌+◌, List, [], ◌∷◌, ◌++◌, length, Result, Ok, Err}
use Rattle.std.specs.List.{AllByRecursion as Each}
use Rattle.rt_value.specs.Bytes.{line_feed}
use Rattle.rt_recorder.specs.Certificate.{Text, IsCert, cert_lines, cert_text, text_of}
use Rattle.rt_recorder.specs.declared.cert.Cert.{Cert}
use Rattle.rt_recorder.specs.declared.fault.CertFault.{CertFault}
use Rattle.rt_recorder.specs.declared.fault.CertFault.TheVariants.{BadLine, NoMemory}

-- some certificate's text begins with these lines
abbrev pub Begins : List Text → Type 0
Begins lines = (c : Cert) × IsCert c × (more : List Text) × (cert_lines c ≡ lines ++ more)

-- one line, without its LF
abbrev pub IsLine : Text → Type 0
IsLine line = Each (λ b. b ≢ 10) line

-- Line n, counted from 1, is the first that no certificate has there. Some certificate's text
-- begins with the lines before it, none with these and line n, and the text is no certificate's.
-- If the text ends after the lines before, or its last line has no LF, there is no whole line n.
pub record IsFirstBad (text : Text) (n : ℕ) : Type 0 where
  pub before : List Text
  pub rest : Text
  pub parts : text ≡ text_of before ++ rest
  pub number : n ≡ length before + 1
  pub are_lines : Each IsLine before
  pub begins : Begins before
  pub ends : (line more : Text) → IsLine line → rest ≡ line ++ line_feed ∷ more → Begins (before ++ line ∷ []) → ⊥
  pub other : (c : Cert) → IsCert c → text ≡ cert_text c → ⊥

-- what the reading of a text gives
abbrev pub IsRead : Text → Result Cert CertFault → Type 0
IsRead text (Ok c) = IsCert c × (text ≡ cert_text c)
IsRead text (Err (BadLine n)) = IsFirstBad text n
IsRead text (Err NoMemory) = Unit {0}

-- unless out of memory, the answer is this line
abbrev pub IsBadLine : ℕ → Result Cert CertFault → Type 0
IsBadLine n (Ok c) = ⊥
IsBadLine n (Err (BadLine m)) = m ≡ n
IsBadLine n (Err NoMemory) = Unit {0}

-- unless out of memory, the answer is this certificate
abbrev pub IsOfCert : Cert → Result Cert CertFault → Type 0
IsOfCert c (Ok d) = d ≡ c
IsOfCert c (Err (BadLine m)) = ⊥
IsOfCert c (Err NoMemory) = Unit {0}
