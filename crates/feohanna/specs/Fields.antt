-- The answers of the reading calls and of choosing, from the numbers that are handed out one by one.
use Rattle.std.specs.Prelude.{ℕ}
use Rattle.reading.specs.Associate.{Associate}
use Rattle.reading.specs.Values.{RejectRead, AbortRead}
use Rattle.reading.specs.Data.{DataRead}
use Rattle.choosing.specs.Call.{Chosen}

abbrev pub associate : ℕ → ℕ → ℕ → ℕ → ℕ → ℕ → ℕ → ℕ → ℕ → ℕ → ℕ → ℕ → ℕ → Associate
associate refusal version at len maximum records classAt classLen versionAt versionLen invoked performed roles =
    record {
      refusal = refusal;
      version = version;
      application_at = at;
      application_len = len;
      maximum = maximum;
      records = records;
      class_at = classAt;
      class_len = classLen;
      version_name_at = versionAt;
      version_name_len = versionLen;
      invoked = invoked;
      performed = performed;
      roles = roles;
    }

abbrev pub reject : ℕ → ℕ → ℕ → ℕ → RejectRead
reject refusal result source reason = record { refusal = refusal; result = result; source = source; reason = reason }

abbrev pub abort : ℕ → ℕ → ℕ → AbortRead
abort refusal source reason = record { refusal = refusal; source = source; reason = reason }

abbrev pub pdv_fields : ℕ → ℕ → ℕ → ℕ → ℕ → DataRead
pdv_fields refusal id control start len = record { refusal = refusal; id = id; control = control; start = start; len = len }

abbrev pub chosen_fields : ℕ → ℕ → Chosen
chosen_fields refusal records = record { refusal = refusal; records = records }
