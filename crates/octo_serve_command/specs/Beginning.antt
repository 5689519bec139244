-- What a host is made of, by its settings.
use Rattle.octo_access.specs.declared.policy.Policy.{Policy}
use Rattle.octo_api_worker.specs.declared.terms.Terms.{Terms}
use Rattle.octo_settings.specs.declared.settings.Settings.{Settings}

-- the groups and the admin of the settings
abbrev pub policy_by : Settings → Policy
policy_by s = record { groups = s.groups; admin = s.admin }

-- what holds for each connection, by the settings
abbrev pub terms_by : Settings → Terms
terms_by s = record { patience = s.patience; origins = s.origins }
